pub mod Sizes
pub mod Image
pub mod Fits

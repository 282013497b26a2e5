pub mod Fill
pub mod Fits

pub mod Cases
pub mod Loops
pub mod Examples
pub mod Fits

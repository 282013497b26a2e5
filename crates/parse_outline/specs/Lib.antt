pub mod Labels
pub mod Parsed
pub mod Outline
pub mod Fits

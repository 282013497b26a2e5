pub mod OutlineRow
pub mod Outline
pub mod Places
pub mod Verdict
pub mod Parse
pub mod Fits

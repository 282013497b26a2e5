pub mod Checks
pub mod Lines

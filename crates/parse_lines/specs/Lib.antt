pub mod Tokens
pub mod Units
pub mod Lines

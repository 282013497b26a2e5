pub mod Token
pub mod Faults
pub mod Rows
pub mod Lex
pub mod Filling
pub mod Fits

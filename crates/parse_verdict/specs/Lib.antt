pub mod Verdict
pub mod Lexing

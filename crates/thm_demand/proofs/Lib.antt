pub mod Demand
pub mod CaseTwo
pub mod CaseImport
pub mod Lexing
pub mod Orders

pub mod CaseTwo
pub mod CaseImport
pub mod Orders

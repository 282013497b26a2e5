pub mod Nesting
pub mod Rows
pub mod Goals
pub mod Seen

pub mod Words
pub mod Fields
pub mod Rows
pub mod Labels
pub mod File
pub mod Form
pub mod Tables
pub mod Good

pub mod Next
pub mod Rows
pub mod Words
pub mod Targets

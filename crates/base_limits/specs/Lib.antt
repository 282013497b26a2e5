pub mod Limits
pub mod Width
pub mod Record

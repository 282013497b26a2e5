pub mod Marks
pub mod Lister

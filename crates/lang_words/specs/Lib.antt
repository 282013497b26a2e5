pub mod Words
pub mod Table
pub mod Numbers
pub mod Substitutes
pub mod Sections

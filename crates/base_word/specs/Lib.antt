pub mod Word
pub mod Answers
pub mod Values
pub mod Shifts
pub mod Bytes

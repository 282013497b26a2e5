pub mod Fields
pub mod Numbers
pub mod Answers
pub mod Records
pub mod Buffers

pub mod Cases
pub mod Marking
pub mod Answer

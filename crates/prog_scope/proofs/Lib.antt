pub mod Cases
pub mod Loops

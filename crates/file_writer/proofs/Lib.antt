pub mod Cases
pub mod Loops
pub mod Ways
pub mod Examples

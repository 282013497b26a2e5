pub mod Labelled
pub mod Cases
pub mod Bounds
pub mod UnitSteps
pub mod Examples

pub mod Cases
pub mod Good
pub mod Reading

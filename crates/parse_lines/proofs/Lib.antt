pub mod Scans
pub mod Cases
pub mod Keys
pub mod Edge

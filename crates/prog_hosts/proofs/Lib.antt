pub mod Cases
pub mod Labels

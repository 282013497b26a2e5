pub mod Cases
pub mod Folds
pub mod Uses

pub mod Naming
pub mod Uses

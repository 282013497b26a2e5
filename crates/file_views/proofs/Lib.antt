pub mod Zeros
pub mod Views
pub mod Same

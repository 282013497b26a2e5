pub mod Three
pub mod Ready

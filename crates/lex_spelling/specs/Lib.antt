pub mod Classes
pub mod Continuation
pub mod Escape
pub mod Breaks
pub mod Text
pub mod Pair

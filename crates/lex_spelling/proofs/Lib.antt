pub mod Ends
pub mod Ahead
pub mod Cases
pub mod Breaks
pub mod Broken
pub mod Examples
pub mod Loops
pub mod Within

pub mod Digits
pub mod Gaps
pub mod Cases
pub mod Within
pub mod Broken

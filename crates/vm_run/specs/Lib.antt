pub mod Steps
pub mod Within

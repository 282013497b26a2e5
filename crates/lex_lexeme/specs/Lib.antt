pub mod Number
pub mod Gap
pub mod Reading

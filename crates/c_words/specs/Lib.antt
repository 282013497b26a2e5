pub mod Placed
pub mod Words
pub mod Record
pub mod Reply

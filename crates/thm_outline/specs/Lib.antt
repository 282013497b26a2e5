pub mod Lined
pub mod Parted

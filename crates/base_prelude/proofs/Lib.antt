pub mod Choice
pub mod Bytes
pub mod Walk
pub mod Lists
pub mod Table
pub mod Keys

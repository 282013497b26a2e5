pub mod Lists
pub mod Cases
pub mod Units
pub mod Flags

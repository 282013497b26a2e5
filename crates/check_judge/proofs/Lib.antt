pub mod Hosted
pub mod Cases
pub mod Lexed
pub mod Fine

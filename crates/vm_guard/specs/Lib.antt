pub mod FrameInUse
pub mod Guard
pub mod Passed

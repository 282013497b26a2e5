pub mod FrameTests
pub mod Counted

pub mod Checked
pub mod Check

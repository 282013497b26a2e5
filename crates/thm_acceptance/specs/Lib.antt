pub mod Reads
pub mod Lines
pub mod LineRules
pub mod Faults
pub mod Accepts
pub mod Unbroken

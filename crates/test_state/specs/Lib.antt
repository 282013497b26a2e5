pub mod Progress
pub mod Source
pub mod Views
pub mod Changes

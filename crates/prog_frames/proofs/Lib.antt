pub mod Cases
pub mod Arms

pub mod Shapes
pub mod Forms

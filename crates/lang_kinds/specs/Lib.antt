pub mod Kinds
pub mod Grounds
pub mod Tokens
pub mod TokenRow
pub mod Nesting
pub mod Standing

pub mod Rule
pub mod Matching
pub mod Searching
pub mod Exact
pub mod Names
pub mod Substituting
pub mod Sectioning

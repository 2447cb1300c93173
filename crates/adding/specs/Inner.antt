pub mod Added
pub mod Determined

pub mod Determined
pub mod Slices

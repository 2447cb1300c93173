pub mod Determined
pub mod Passing

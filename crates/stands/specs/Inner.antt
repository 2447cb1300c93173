pub mod Back
pub mod Determined
pub mod Passing
pub mod Putting

pub mod Determined
pub mod Rule
pub mod Run
pub mod Step

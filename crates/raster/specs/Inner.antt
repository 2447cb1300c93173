pub mod Decimals
pub mod Determined
pub mod Steps

pub mod Determined
pub mod Standing

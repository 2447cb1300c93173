pub mod Bounds
pub mod Fresh
pub mod Given
pub mod Refusals
pub mod Inner

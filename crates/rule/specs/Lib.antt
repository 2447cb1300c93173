pub mod Bounds
pub mod Drops
pub mod Length
pub mod Rules
pub mod Weighing
pub mod Inner

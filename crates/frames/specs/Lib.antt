pub mod Arrows
pub mod Bounds
pub mod Frame
pub mod Worked
pub mod Inner

pub mod Levels
pub mod Lines
pub mod Program
pub mod Worked
pub mod Inner

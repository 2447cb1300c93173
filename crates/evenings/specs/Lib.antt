pub mod Taking
pub mod Shown
pub mod Program
pub mod Worked
pub mod Inner

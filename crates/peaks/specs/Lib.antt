pub mod Highest
pub mod Peaks
pub mod Worked
pub mod Inner

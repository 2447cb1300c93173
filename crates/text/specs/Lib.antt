pub mod Bytes
pub mod Lines
pub mod Reading
pub mod Worked
pub mod Writing
pub mod Inner

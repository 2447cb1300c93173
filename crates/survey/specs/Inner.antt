pub mod Notes
pub mod Writing

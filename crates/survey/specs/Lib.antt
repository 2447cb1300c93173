pub mod Sets
pub mod Moving
pub mod Worked
pub mod Inner

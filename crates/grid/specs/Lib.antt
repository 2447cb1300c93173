pub mod Marks
pub mod Masks
pub mod Squares
pub mod Walks
pub mod Inner

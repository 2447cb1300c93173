pub mod Boards
pub mod Inner

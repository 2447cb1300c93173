pub mod Boards
pub mod Watch
pub mod Worked
pub mod Inner

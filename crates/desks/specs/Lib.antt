pub mod Inner
pub mod Command
pub mod Lines
pub mod Orders
pub mod State
pub mod Worked

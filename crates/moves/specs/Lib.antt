pub mod Drops
pub mod Inner
pub mod Moves

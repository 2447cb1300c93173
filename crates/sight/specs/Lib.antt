pub mod AllArrows
pub mod Arrows
pub mod Inner
pub mod Refusals
pub mod Speeds
pub mod WetRows

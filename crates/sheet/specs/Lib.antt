pub mod Lines
pub mod Sheet
pub mod Written
pub mod Inner

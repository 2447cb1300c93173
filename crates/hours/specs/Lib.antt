pub mod Hours
pub mod Inner

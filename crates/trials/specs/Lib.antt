pub mod Inner
pub mod Ring
pub mod Room

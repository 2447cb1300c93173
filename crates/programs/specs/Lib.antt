pub mod Program
pub mod Reading
pub mod Inner

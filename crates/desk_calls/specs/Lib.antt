pub mod Several
pub mod Single

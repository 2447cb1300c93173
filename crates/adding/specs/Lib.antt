pub mod Account
pub mod Added
pub mod Inner

pub mod Account
pub mod Inner
pub mod Worked

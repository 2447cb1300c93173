pub mod Determined
pub mod Ready
pub mod Rows

pub mod Determined
pub mod Lent
pub mod Refreshed

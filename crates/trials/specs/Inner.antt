pub mod Determined
pub mod Owes
pub mod Series

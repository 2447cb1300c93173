pub mod Determined
pub mod Rows
pub mod Visits

pub mod Determined
pub mod InRange
pub mod Totals

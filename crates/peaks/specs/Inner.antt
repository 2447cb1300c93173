pub mod Determined
pub mod Raised
pub mod Sheets

pub mod Inner
pub mod Bounds
pub mod Numbers
pub mod Refusals
pub mod Sheets
pub mod Sights
pub mod Steps

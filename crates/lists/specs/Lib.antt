pub mod Names
pub mod Sheets
pub mod Drowned
pub mod Tally
pub mod Right
pub mod Worked
pub mod Inner

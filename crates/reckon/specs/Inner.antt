pub mod Determined
pub mod Fits
pub mod RootSearch
pub mod Rows

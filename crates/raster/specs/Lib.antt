pub mod Amounts
pub mod Raster
pub mod Worked
pub mod Inner

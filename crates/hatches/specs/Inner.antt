pub mod Determined
pub mod Judged
pub mod Lines
pub mod Rates

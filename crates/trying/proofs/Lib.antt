pub mod Determined
pub mod LineLaws

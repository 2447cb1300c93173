pub mod Determined
pub mod Reading

pub mod Determined
pub mod Fill

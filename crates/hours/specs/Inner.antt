pub mod Determined
pub mod Wet

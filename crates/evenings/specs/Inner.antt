pub mod Backs
pub mod Determined
pub mod Sizes

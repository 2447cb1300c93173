pub mod Determined
pub mod Given

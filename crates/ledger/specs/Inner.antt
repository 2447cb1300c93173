pub mod Determined
pub mod Engine
pub mod TakeBack
pub mod Walks
pub mod Worlds

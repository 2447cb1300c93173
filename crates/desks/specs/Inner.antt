pub mod Determined
pub mod Further
pub mod Lent
pub mod Rooms
pub mod Sizes

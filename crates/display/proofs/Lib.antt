pub mod BoardLaws
pub mod Determined
pub mod FirstLaws
pub mod LentLaws
pub mod ShownLaws
pub mod WatchLaws
pub mod WorkedLaws

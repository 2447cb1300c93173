pub mod Evenings
pub mod Exported
pub mod Library
pub mod Listed
pub mod Repairing
pub mod Surveyed
pub mod Timed
pub mod Watched

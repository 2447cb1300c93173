pub mod ArrowsLaws
pub mod BoundsLaws
pub mod Determined
pub mod FrameLaws
pub mod WorkedLaws

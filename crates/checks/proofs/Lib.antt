pub mod BoundsLaws
pub mod CheckLaws
pub mod Determined
pub mod FreshLaws

pub mod BesideLaws
pub mod Determined
pub mod MarkLaws
pub mod MaskLaws
pub mod RestLaws
pub mod SquareLaws
pub mod WalkLaws

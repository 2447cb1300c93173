pub mod AnswerLaws
pub mod BoundsLaws
pub mod Determined
pub mod NumberLaws
pub mod SheetLaws
pub mod SightLaws
pub mod StepLaws

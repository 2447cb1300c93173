pub mod AccountLaws
pub mod Determined
pub mod KeptLaws
pub mod RuleLaws
pub mod RunInTwoLaws
pub mod RunToLaws
pub mod StepCountLaws
pub mod StepLaws

pub mod Alike
pub mod AllArrowsLaws
pub mod ArrowLaws
pub mod Determined
pub mod RefusalLaws
pub mod SpeedLaws
pub mod WetLaws

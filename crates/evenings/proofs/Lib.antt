pub mod BackLaws
pub mod Determined
pub mod NightLaws
pub mod RingSteps
pub mod ShownLaws
pub mod TakeLaws
pub mod WorkedLaws

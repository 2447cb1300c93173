pub mod Determined
pub mod GivenLaws
pub mod WorkedLaws

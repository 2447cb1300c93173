pub mod Determined
pub mod SliceLaws
pub mod ToldLaws

pub mod Determined
pub mod HighLaws
pub mod HighestLaws
pub mod PeakLaws
pub mod RaiseLaws
pub mod RunPeakLaws
pub mod WorkedLaws

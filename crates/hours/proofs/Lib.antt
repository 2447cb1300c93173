pub mod AddedLaws
pub mod Determined
pub mod HoursLaws
pub mod WetLaws

pub mod AccountLaws
pub mod AddedLaws
pub mod Determined
pub mod OnceLaws

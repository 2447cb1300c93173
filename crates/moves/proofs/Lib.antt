pub mod Determined
pub mod DropLaws
pub mod FillLaws
pub mod LengthLaws
pub mod MoveLaws
pub mod WetLaws

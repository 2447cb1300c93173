pub mod ByRecord
pub mod Determined
pub mod ReachLaws
pub mod SettleLaws
pub mod SpreadLaws
pub mod SureLaws

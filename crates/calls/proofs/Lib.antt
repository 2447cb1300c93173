pub mod EveningLaws
pub mod ExportedLaws
pub mod LibraryLaws
pub mod ListedLaws
pub mod RepairingLaws
pub mod SurveyedLaws
pub mod TimedLaws
pub mod WatchedLaws

pub mod LevelLaws
pub mod LineLaws
pub mod ShownLaws
pub mod WorkedLaws

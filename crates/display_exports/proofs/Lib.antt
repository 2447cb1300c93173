pub mod Determined
pub mod HeldLaws

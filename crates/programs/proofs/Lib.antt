pub mod Determined
pub mod EndedLaws
pub mod HeldLaws
pub mod MeadowLaws
pub mod PrinterLaws
pub mod RunLaws

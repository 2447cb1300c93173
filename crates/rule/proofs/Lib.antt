pub mod Determined
pub mod DropLaws
pub mod LengthLaws
pub mod LowRootLaws
pub mod RuleLaws
pub mod SpanLaws
pub mod WeighingLaws

pub mod Determined
pub mod LineLaws
pub mod LogLaws
pub mod RatesLaws
pub mod RefusalLaws
pub mod RowLaws
pub mod WorkedLaws

pub mod Determined
pub mod Settle

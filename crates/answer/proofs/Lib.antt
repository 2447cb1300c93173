pub mod ApartLaws
pub mod Determined
pub mod PrintLaws

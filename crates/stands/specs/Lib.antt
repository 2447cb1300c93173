pub mod Laying
pub mod Texts
pub mod Worked
pub mod Inner

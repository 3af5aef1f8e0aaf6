pub mod Wrapping
pub mod ByPlace
pub mod Inverses
pub mod ColumnWords
pub mod Laying
pub mod Answers
pub mod Returns

pub mod Filling
pub mod Answers
pub mod Exactly
pub mod Alike
pub mod Ordinary

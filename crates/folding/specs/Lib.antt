pub mod Folding
pub mod Passing

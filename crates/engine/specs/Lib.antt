pub mod Places
pub mod Ready
pub mod Runs
pub mod Marked
pub mod Settling
pub mod Touching
pub mod Trying

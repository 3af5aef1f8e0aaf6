pub mod Splices
pub mod Changes
pub mod Exactly

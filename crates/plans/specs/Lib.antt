pub mod Plans
pub mod Steps
pub mod Changing

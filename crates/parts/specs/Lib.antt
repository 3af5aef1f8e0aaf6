pub mod Device
pub mod Families
pub mod Modes
pub mod Ranges
pub mod Reaching
pub mod Omitting
pub mod Keeping
pub mod Sending

pub mod Bools
pub mod Ranges
pub mod Search
pub mod Copies
pub mod Lists
pub mod Sums
pub mod Counts

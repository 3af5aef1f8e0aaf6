pub mod Counting
pub mod Files
pub mod Loading
pub mod Report

pub mod Cases
pub mod Table
pub mod Rows
pub mod Descent
pub mod Chains
pub mod Scoped
pub mod Agree
pub mod Folded

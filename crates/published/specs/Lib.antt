pub mod Published
pub mod Stated
pub mod Chains
pub mod Inputs
pub mod Cases
pub mod Printed

pub mod Sets
pub mod EndToEnd
pub mod EachRule
pub mod Checked

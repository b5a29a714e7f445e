pub mod Examples
pub mod Longest

pub mod Report
pub mod Calls
pub mod Longest

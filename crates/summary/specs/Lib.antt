pub mod Rows
pub mod Summary

pub mod Opened
pub mod Passes
pub mod Taken

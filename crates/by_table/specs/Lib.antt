pub mod Reading
pub mod Calls
pub mod Each

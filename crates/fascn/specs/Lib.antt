pub mod Fascn
pub mod Calls
pub mod Reading

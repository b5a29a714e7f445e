pub mod Points
pub mod Calls
pub mod Places

pub mod Agree
pub mod Each
pub mod Strings

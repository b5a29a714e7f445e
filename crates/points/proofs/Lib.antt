pub mod Along
pub mod Record
pub mod Back
pub mod Entries
pub mod Holding
pub mod Ways
pub mod Once

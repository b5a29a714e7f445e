pub mod Reading
pub mod Writing
pub mod Spellings
pub mod Examples

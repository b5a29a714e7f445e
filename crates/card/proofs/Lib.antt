pub mod Bound
pub mod Reading

pub mod Valued
pub mod Openings
pub mod Opens
pub mod Bound
pub mod Reading

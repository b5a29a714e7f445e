pub mod Length
pub mod Tag
pub mod Head

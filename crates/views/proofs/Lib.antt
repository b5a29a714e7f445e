pub mod Ways
pub mod Elements
pub mod Examples
pub mod Placing

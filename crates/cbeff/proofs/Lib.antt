pub mod Agreed
pub mod Ways
pub mod Told
pub mod Exact
pub mod Examples

pub mod Told
pub mod Agreed
pub mod Exact
pub mod Sizes
pub mod Examples

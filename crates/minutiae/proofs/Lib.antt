pub mod Listed
pub mod Tested
pub mod Agreed
pub mod Exact
pub mod Sizes
pub mod Examples

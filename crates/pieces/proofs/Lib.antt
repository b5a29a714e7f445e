pub mod Laws
pub mod Exact

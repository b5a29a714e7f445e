pub mod SignedByte
pub mod Exact
pub mod Creators
pub mod Examples

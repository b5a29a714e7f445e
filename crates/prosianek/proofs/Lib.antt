pub mod Decoding
pub mod Checking
pub mod ByTable

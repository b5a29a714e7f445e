pub mod Writing
pub mod InOrder
pub mod Calls
pub mod Passes

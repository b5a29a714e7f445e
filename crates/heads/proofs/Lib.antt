pub mod Lengths
pub mod Heads

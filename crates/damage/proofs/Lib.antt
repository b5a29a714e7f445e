pub mod Bits
pub mod Window
pub mod Neighbours
pub mod Refused
pub mod Tested
pub mod Seven
pub mod Spoiled
pub mod Carried

pub mod Digits
pub mod Bytes
pub mod Layout
pub mod Room
pub mod Tests
pub mod Format
pub mod Ascii

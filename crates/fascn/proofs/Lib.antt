pub mod Characters
pub mod Framing
pub mod Packing
pub mod Codec
pub mod Answers
pub mod Examples

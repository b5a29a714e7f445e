pub mod Lines
pub mod Shapes
pub mod Bound
pub mod Reading

pub mod General
pub mod Bounds
pub mod Texts
pub mod Reading
pub mod Numbers
pub mod Examples

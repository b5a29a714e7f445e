pub mod Container
pub mod Reading
pub mod Spans
pub mod Map
pub mod Judged
pub mod InOrder

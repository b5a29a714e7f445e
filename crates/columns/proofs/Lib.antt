pub mod Filling
pub mod Views
pub mod Shortest

pub mod Elements
pub mod Map

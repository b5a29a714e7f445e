pub mod Views
pub mod ByMap

pub mod Plain
pub mod Quality

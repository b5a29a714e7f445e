pub mod Elements
pub mod Ways
pub mod Both
pub mod Handing
pub mod Once
pub mod Computed

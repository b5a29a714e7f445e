pub mod Items
pub mod Shapes
pub mod Told
pub mod Exact
pub mod Computed

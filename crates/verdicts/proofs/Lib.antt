pub mod Apart
pub mod Outputs

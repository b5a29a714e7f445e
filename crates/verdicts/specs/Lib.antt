pub mod Verdicts
pub mod Output

pub mod Pictures
pub mod Judged

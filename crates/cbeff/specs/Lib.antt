pub mod Header
pub mod Judged

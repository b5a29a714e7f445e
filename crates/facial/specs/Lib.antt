pub mod Facial
pub mod Judged
pub mod Within

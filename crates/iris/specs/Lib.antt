pub mod Iris
pub mod Judged
pub mod Within

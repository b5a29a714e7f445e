pub mod Bound
pub mod Answers
pub mod Same
pub mod Converse

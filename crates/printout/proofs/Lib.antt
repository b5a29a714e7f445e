pub mod Ways
pub mod Printed

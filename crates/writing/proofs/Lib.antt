pub mod Ways
pub mod Sheets
pub mod Promise
pub mod Named
pub mod Calls
pub mod Examples

pub mod Sheets
pub mod Examples
pub mod Bound
pub mod Calls

pub mod Calendars
pub mod Windows
pub mod Dates
pub mod Texts
pub mod Moments
pub mod Printed
pub mod Examples

pub mod Calendar
pub mod Date
pub mod Moment
pub mod Pairs
pub mod Printed

pub mod Cases
pub mod Bases
pub mod Turns
pub mod Layouts
pub mod Rooms
pub mod Formats
pub mod Arms
pub mod Xor

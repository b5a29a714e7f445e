pub mod Folder
pub mod Pieces

pub mod Arms
pub mod Every

pub mod Limiting
pub mod Rising
pub mod Corners

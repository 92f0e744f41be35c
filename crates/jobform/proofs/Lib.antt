pub mod Parts
pub mod Reading
pub mod Keeping
pub mod Forming
pub mod Sizes

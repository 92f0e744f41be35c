pub mod Moving
pub mod Filling
pub mod Putting

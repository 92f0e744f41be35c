pub mod Rowwise
pub mod Flipping

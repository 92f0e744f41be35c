pub mod First
pub mod Sizes

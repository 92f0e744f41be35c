pub mod Sizes
pub mod Turn
pub mod Examples

pub mod Reading
pub mod Shortness
pub mod Writing
pub mod Main

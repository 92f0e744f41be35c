pub mod Ranges
pub mod Limiting
pub mod Shift
pub mod Examples

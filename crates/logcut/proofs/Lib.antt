pub mod Newlines
pub mod Ending
pub mod Reading
pub mod Cutting

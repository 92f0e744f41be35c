pub mod Limits
pub mod Questions
pub mod Net
pub mod Inner

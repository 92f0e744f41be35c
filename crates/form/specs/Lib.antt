pub mod Limits
pub mod Form
pub mod Inner

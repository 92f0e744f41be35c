pub mod Limits
pub mod JobSheet
pub mod Inner

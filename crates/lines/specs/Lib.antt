pub mod InnerLimits
pub mod Lines
pub mod Kinds
pub mod Inner

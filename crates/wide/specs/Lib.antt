pub mod Rounding
pub mod Wide
pub mod Inner

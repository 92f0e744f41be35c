pub mod Outcome
pub mod Inner
pub mod Left

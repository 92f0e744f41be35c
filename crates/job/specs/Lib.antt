pub mod Number
pub mod Answer
pub mod Outcome
pub mod Inner

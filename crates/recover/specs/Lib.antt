pub mod Answer
pub mod Outcome
pub mod Run
pub mod Inner

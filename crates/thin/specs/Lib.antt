pub mod Answer
pub mod Order
pub mod Thin
pub mod Run
pub mod Inner

pub mod Order
pub mod Answer
pub mod Report
pub mod Inner

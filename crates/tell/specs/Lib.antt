pub mod Text
pub mod Answer
pub mod Put
pub mod Inner

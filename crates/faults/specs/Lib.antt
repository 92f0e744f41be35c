pub mod Counts
pub mod Words
pub mod Order
pub mod Inner

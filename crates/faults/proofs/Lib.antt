pub mod Opposites
pub mod Order

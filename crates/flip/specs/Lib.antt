pub mod Refused
pub mod Inner

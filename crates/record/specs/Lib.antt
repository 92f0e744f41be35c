pub mod Layout
pub mod Meant
pub mod Front
pub mod Inner

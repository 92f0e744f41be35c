pub mod Stepping
pub mod Front

pub mod Step
pub mod Front

pub mod Passing
pub mod Forming

pub mod Holding
pub mod Rule

pub mod Beginnings
pub mod One

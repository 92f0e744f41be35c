pub mod Laws
pub mod Tally
pub mod Condition

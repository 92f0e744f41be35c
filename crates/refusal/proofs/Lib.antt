pub mod Laws
pub mod Either
pub mod Outcome
pub mod Refuses
pub mod Tells

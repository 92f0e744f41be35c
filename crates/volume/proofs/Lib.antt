pub mod Laws
pub mod Main
pub mod Sums

pub mod Rounded
pub mod Laws
pub mod Parts
pub mod Ways
pub mod Examples

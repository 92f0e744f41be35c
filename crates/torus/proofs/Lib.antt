pub mod Rows
pub mod Closed
pub mod Torus

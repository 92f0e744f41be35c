pub mod Cut
pub mod Turns
pub mod Plain
pub mod Lengths

pub mod Loops
pub mod Striking

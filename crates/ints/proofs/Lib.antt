pub mod Ints
pub mod Machine
pub mod Short

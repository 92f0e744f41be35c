pub mod Bytes
pub mod Twos

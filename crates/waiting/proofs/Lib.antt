pub mod Digits
pub mod Members
pub mod Waiters

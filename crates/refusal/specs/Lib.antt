pub mod Number
pub mod First
pub mod Told
pub mod Refuses
pub mod Lesser
pub mod Outcome
pub mod InnerTells
pub mod Inner

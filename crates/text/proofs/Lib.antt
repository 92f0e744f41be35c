pub mod Digits
pub mod Scan
pub mod Words
pub mod Signs
pub mod Spell

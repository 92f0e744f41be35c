pub mod Limits
pub mod Skin

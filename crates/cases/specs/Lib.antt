pub mod Skins
pub mod Cases

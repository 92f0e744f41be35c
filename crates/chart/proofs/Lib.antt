pub mod Linking
pub mod Looking

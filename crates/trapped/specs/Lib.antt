pub mod Trapped
pub mod ByCorner

pub mod Corners
pub mod InnerChain
pub mod Inner

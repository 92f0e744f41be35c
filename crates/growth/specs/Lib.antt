pub mod Grow
pub mod Accept
pub mod InnerLocal

pub mod Limit
pub mod Answer
pub mod InnerSmall

pub mod Following
pub mod Examples

pub mod Leads
pub mod Follow
pub mod Inner

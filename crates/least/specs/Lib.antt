pub mod Limited
pub mod InnerSearch
pub mod Inner

pub mod Layout
pub mod InnerMeant
pub mod Inner

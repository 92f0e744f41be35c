pub mod Walking
pub mod Growing

pub mod Nears
pub mod Walking
pub mod Meeting

pub mod InnerSpots
pub mod InnerHeld
pub mod InnerLists
pub mod InnerCounts
pub mod InnerKept

pub mod Spots
pub mod Live
pub mod Held
pub mod Counts
pub mod Laying
pub mod Closing

pub mod Slots
pub mod Chain
pub mod Marks
pub mod Staged

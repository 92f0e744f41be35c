pub mod Slot
pub mod Chain
pub mod Marks

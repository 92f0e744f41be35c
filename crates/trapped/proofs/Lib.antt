pub mod Trap
pub mod Flags
pub mod Finish
pub mod Order
pub mod Slips

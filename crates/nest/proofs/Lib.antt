pub mod Entries
pub mod Asking
pub mod Sizes
pub mod Adding
pub mod Netting

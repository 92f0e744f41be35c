pub mod Going
pub mod Whole

pub mod Judging
pub mod Going
pub mod Keeping
pub mod Main

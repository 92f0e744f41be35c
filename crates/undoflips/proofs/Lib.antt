pub mod Judging
pub mod Going
pub mod Main
pub mod Restoring

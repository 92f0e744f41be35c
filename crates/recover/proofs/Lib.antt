pub mod Handing
pub mod Going
pub mod Judging
pub mod Main

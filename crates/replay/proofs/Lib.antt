pub mod Main
pub mod Redoing
pub mod Judging

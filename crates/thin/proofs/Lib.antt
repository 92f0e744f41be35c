pub mod Main
pub mod Judging
pub mod Engaged

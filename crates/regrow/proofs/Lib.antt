pub mod Main
pub mod Counted
pub mod Undoing
pub mod Ready

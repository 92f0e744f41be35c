pub mod Accepting
pub mod Redoing

pub mod Passing
pub mod Near
pub mod Linking
pub mod Running
pub mod Using

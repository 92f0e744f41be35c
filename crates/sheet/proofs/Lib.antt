pub mod Last
pub mod Promises
pub mod Every

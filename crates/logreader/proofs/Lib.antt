pub mod Asking
pub mod Each
pub mod Again
pub mod Main

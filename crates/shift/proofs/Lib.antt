pub mod Checking
pub mod Reporting
pub mod Main

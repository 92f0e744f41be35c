pub mod Running
pub mod Sheets
pub mod Most
pub mod Main
pub mod Partly

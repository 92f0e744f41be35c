pub mod Links
pub mod Chart

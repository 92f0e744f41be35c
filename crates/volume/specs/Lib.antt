pub mod Answer
pub mod Report

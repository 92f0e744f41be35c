pub mod Leave
pub mod Recording

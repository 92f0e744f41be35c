pub mod Units
pub mod Says
pub mod Fields

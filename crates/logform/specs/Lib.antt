pub mod LogSheet
pub mod Inner

pub mod Heading
pub mod Inner

pub mod CatchUp

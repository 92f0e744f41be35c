pub mod Redo

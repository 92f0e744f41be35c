pub mod Flip
pub mod Undo
pub mod Kept
pub mod InnerUndoable

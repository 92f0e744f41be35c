pub mod InnerGround
pub mod InnerRound
pub mod InnerClose

pub mod Judging
pub mod Numbers
pub mod Answering
pub mod Laws
pub mod Writing
pub mod One
pub mod Impostors

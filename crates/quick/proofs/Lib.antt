pub mod Logging
pub mod Counting
pub mod Grounds
pub mod Trying
pub mod Finishing
pub mod Closing

pub mod InnerWaiting

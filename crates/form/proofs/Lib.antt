pub mod Lower
pub mod Formed
pub mod Within
pub mod Counted
pub mod Sizes
pub mod One

pub mod Leading
pub mod Following
pub mod Within
pub mod Upto
pub mod Back

pub mod Chosen
pub mod InnerBoth

pub mod Quotient
pub mod Pattern
pub mod Laws
pub mod Figures
pub mod Feet

pub mod Lent
pub mod Main
pub mod OtherUnits
pub mod Crossed

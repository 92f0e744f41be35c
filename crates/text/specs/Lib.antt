pub mod Decimal
pub mod InnerReading
pub mod Inner

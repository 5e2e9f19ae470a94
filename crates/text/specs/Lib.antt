pub mod Decimal
pub mod Line
pub mod Put

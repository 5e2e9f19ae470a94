pub mod Split
pub mod Bools
pub mod Align
pub mod Units

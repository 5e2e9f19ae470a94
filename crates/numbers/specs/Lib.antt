pub mod Names
pub mod Align
pub mod Units
pub mod Pick

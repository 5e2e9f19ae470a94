pub mod Lists
pub mod Turns
pub mod Behind
pub mod Agree

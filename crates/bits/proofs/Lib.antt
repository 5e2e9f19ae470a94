pub mod Digits
pub mod Words
pub mod Filled
pub mod Ops
pub mod Find
pub mod Count

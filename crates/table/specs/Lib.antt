pub mod Ordered
pub mod Changeable

pub mod Limits
pub mod Pools
pub mod Sizes

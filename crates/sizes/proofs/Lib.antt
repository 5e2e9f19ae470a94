pub mod Powers
pub mod InForce
pub mod Pools
pub mod Walk
pub mod Sizes

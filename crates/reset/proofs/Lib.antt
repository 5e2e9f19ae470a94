pub mod Kept
pub mod Ready
pub mod Walk

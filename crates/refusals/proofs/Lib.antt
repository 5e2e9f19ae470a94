pub mod Look
pub mod Address
pub mod Size
pub mod Exactly

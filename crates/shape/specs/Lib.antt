pub mod Parts
pub mod Facts
pub mod Shaped

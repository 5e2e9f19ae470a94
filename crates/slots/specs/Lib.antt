pub mod Slots
pub mod Back

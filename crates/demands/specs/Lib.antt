pub mod Apart
pub mod Counts
pub mod Alloc
pub mod Back

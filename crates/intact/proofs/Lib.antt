pub mod New
pub mod Arena
pub mod Kept
pub mod Step
pub mod Intact
pub mod T1

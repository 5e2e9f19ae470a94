pub mod Flags
pub mod Window
pub mod Kept
pub mod LiesAs

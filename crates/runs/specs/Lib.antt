pub mod Window
pub mod Walk
pub mod Steps
pub mod Seek

pub mod Record
pub mod Marking
pub mod Search
pub mod Window

pub mod Unused
pub mod InArena
pub mod Refused
pub mod Copying

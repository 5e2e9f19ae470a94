pub mod Unused
pub mod Inside
pub mod Lent
pub mod Refused
pub mod Copying
pub mod Written
pub mod CopyRefused

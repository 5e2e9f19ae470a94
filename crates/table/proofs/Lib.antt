pub mod Lookup
pub mod Slot
pub mod Place
pub mod Shift
pub mod First

pub mod Sized
pub mod Closed

pub mod Tests
pub mod Find
pub mod Lists
pub mod Lengths
pub mod Held

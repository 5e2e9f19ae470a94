pub mod Keepable
pub mod Clearable

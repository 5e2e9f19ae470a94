pub mod Bytes
pub mod Kinds
pub mod Records

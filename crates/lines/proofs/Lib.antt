pub mod Lines
pub mod Last

pub mod Play
pub mod Output

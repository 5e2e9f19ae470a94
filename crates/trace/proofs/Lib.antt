pub mod Going
pub mod Whole
pub mod Pieces
pub mod Sessions

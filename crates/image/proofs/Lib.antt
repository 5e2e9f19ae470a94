pub mod Sets
pub mod Image

pub mod Part
pub mod Lent
pub mod Laws

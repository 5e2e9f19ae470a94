pub mod Table
pub mod Shape
pub mod Find
pub mod Change
pub mod Outcome
pub mod InTable
pub mod Held

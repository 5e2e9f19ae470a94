pub mod Paint
pub mod Ledger
pub mod Agrees
pub mod First
pub mod Reached

pub mod T1
pub mod One
pub mod Search
pub mod Searched
pub mod Hits
pub mod Look
pub mod Cases
pub mod Refusals

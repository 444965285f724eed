-- The theorems.
pub mod Holds
pub mod Rules
pub mod Written

-- The definitions that the contracts of `handover_compare` cite.
pub mod Made
pub mod Answer
pub mod Answers
pub mod Numbers
pub mod Readings
pub mod Fields
pub mod Steps
pub mod Shown

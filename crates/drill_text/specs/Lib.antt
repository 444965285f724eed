-- The definitions that the contracts of `drill_text` cite.
pub mod Values
pub mod Pairs
pub mod Lines
pub mod Reads

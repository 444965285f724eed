-- The definitions that the contracts of `exports_values` cite.
pub mod Answers
pub mod Codes
pub mod Decoded
pub mod Packed
pub mod Told

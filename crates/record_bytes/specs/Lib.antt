-- The definitions that the contracts of `record_bytes` cite.
pub mod State
pub mod Record

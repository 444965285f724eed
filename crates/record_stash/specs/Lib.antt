-- The definitions that the contracts of `record_stash` cite.
pub mod Rows
pub mod Slots

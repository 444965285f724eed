-- The definitions that the contracts of `record_files` cite.
pub mod Load
pub mod Save

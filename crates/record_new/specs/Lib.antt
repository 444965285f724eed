-- The definitions that the contracts of `record_new` cite.
pub mod New

-- The definitions that the contracts of `wire_groups` cite.
pub mod Matching

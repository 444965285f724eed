-- The definitions that the contracts of `handover_groups` cite.
pub mod Codes
pub mod Settings
pub mod State

-- The definitions that the contracts of `handover_load` cite beside those of the file.
pub mod Reading

-- The definitions that the contracts of `handover_save` cite beside those of the file.
pub mod Groups

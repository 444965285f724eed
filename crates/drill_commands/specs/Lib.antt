-- The definitions that the contracts of `drill_commands` cite.
pub mod Settings
pub mod Made

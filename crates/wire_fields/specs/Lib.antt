-- The definitions that the contracts of `wire_fields` cite.
pub mod Field
pub mod Walk
pub mod Fields
pub mod Sound
pub mod Walker

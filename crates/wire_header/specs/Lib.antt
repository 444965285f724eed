-- The definitions that the contracts of `wire_header` cite.
pub mod Header
pub mod Kiss

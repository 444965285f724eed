-- The definitions that the contracts of `wire_incoming` cite.
pub mod Incoming
pub mod Refused

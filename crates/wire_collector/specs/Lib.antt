-- The definitions that the contracts of `wire_collector` cite.
pub mod Collector

-- The definitions that the contracts of `wire_request` cite.
pub mod Extension
pub mod Request
pub mod Answer
pub mod Numbers

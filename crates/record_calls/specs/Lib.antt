-- The definitions that the contracts of `record_calls` cite.
pub mod Accept
pub mod Reply
pub mod Timer

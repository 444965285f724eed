-- The definitions that the contracts of `timer_rules` cite.
pub mod Answer
pub mod Poll
pub mod Decide

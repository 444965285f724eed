-- The definitions that the contracts of `reply_rules` cite.
pub mod Answer
pub mod Judge
pub mod Told
pub mod Form

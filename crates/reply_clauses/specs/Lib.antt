-- The definitions that the contracts of `reply_clauses` cite.
pub mod After
pub mod Why

-- The definitions that the contracts of `reply` cite, and the statements that its laws prove.
pub mod Reply
pub mod Numbers

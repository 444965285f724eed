-- The definitions that the contracts of `timer` cite, and the statements that its laws prove.
pub mod Timer
pub mod Numbers

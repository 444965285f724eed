-- The definitions that the contracts of `association_accept` cite, and the statements that its laws prove.
pub mod Accept
pub mod Numbers

-- The definitions that the contracts of `association_metered` cite, and the statements that its laws prove.
pub mod Profile
pub mod Numbers

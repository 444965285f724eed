-- The definitions that the contracts of `cookielist` cite.
pub mod List
pub mod Cookies

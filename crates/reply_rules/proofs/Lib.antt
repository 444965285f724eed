-- Laws that belong to no one function.
pub mod Follows
pub mod Actions
pub mod Untrusted
pub mod Determined

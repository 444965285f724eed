-- Laws that belong to no one function.
pub mod Prefix
pub mod Groups
pub mod Weighed
pub mod Uids
pub mod Untrusted
pub mod Determined

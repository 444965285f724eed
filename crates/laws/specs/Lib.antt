-- The association as a machine; statements about its logs, also by the crate's rule, about some elements of a list in order, and about reading a request back.
pub mod Along
pub mod Rate
pub mod Retired
pub mod Unanswered
pub mod Nine
pub mod Polls
pub mod Some
pub mod Cookies
pub mod Saving
pub mod Reading
pub mod Association

-- Laws that belong to no one function.
pub mod Count
pub mod Unanswered
pub mod Actions
pub mod Determined

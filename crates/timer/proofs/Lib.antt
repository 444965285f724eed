-- Laws that belong to no one function.
pub mod Numbers
pub mod After
pub mod Kept
pub mod Core
pub mod Eight
pub mod Determined

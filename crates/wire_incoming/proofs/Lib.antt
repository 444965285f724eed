-- Laws that belong to no one function.
pub mod Undecodable
pub mod WithoutNts
pub mod Modes
pub mod Leaps
pub mod Determined

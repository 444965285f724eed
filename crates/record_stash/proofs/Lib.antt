-- Laws that belong to no one function.
pub mod Rows
pub mod Mid
pub mod Change
pub mod Stores
pub mod With
pub mod Along
pub mod Zeros
pub mod Blank
pub mod Determined

-- Laws that belong to no one function.
pub mod Carried
pub mod Determined

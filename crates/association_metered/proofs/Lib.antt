-- Laws that belong to no one function.
pub mod Longer
pub mod Numbers
pub mod Plain
pub mod Determined

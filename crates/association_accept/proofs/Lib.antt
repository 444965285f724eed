-- Laws that belong to no one function.
pub mod Among
pub mod Numbers
pub mod Crate
pub mod Below
pub mod Determined

-- Laws that belong to no one function.
pub mod Records
pub mod Written
pub mod Determined

-- Laws that belong to no one function.
pub mod Digits
pub mod Splits
pub mod Versions
pub mod Bytes
pub mod Lists
pub mod Words

-- Laws that belong to no one function.
pub mod Placing
pub mod Sizes
pub mod Fitting
pub mod Longest
pub mod Numbers
pub mod Determined

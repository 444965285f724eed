-- Laws that belong to no one function.
pub mod Numbers
pub mod Why
pub mod After
pub mod Kept
pub mod Eight
pub mod Measured
pub mod Determined
pub mod Forms

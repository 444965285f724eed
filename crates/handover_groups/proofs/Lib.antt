-- Laws that belong to no one function.
pub mod OfCodes
pub mod OfSettings
pub mod OfState
pub mod Fit
pub mod Determined

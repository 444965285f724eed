-- Laws that belong to no one function.
pub mod Head
pub mod Fit
pub mod Codes
pub mod RoundTrip
pub mod Determined

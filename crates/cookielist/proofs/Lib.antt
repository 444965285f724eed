-- Laws that belong to no one function.
pub mod Head
pub mod Reader
pub mod RoundTrip
pub mod Refused
pub mod Determined
pub mod Given

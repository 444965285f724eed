-- Laws that belong to no one function.
pub mod State
pub mod Head
pub mod Packed
pub mod Unpacked
pub mod RoundTrip
pub mod Stated
pub mod Lies
pub mod Writes
pub mod Fit
pub mod Determined

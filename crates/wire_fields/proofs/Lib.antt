-- Laws that belong to no one function.
pub mod Walks
pub mod Sound
pub mod Left
pub mod Refused
pub mod Determined
pub mod Laws

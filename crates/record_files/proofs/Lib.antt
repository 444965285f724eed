-- Laws that belong to no one function.
pub mod Laid
pub mod LoadTold
pub mod Writes
pub mod Determined
pub mod Emptied
pub mod SaveTold

-- Laws that belong to no one function.
pub mod Mark
pub mod Walks
pub mod Along
pub mod Sums
pub mod Clean
pub mod Undamaged
pub mod Twice
pub mod Answers
pub mod Gaps
pub mod Determined

-- Laws of the writer.
pub mod Writing
pub mod Saved
pub mod Determined

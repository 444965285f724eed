-- Laws of both readers.
pub mod Reading
pub mod Determined
pub mod Decides
pub mod Within

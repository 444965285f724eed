-- The definitions of the hand-over file, which the contracts of its writer and its readers cite; and those of the steps through a file.
pub mod Sections
pub mod Cookies
pub mod File
pub mod Answers
pub mod Numbers
pub mod Before
pub mod Steps
pub mod Given

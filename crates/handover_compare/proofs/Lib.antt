-- Laws of the comparison of two hand-over files.
pub mod Listing
pub mod Told
pub mod Numbers
pub mod Files
pub mod Exchanged
pub mod Determined
pub mod Places
pub mod Ages
pub mod Grouped
pub mod Listed
pub mod Same
pub mod Longest

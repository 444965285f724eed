-- The laws of `exports`.
pub mod After
pub mod Determined

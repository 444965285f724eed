-- The laws of `exports_values`.
pub mod Laws
pub mod Determined
pub mod ToolLaws

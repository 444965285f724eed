-- The definitions that the contracts of `salvage` cite.
pub mod Walk
pub mod Steps
pub mod Salvage

pub mod Rows
pub mod Draws
pub mod NewHomes
pub mod NameLemmas
pub mod NameBlocks
pub mod Sweeps
pub mod Slots
pub mod Locations

pub mod Setting
pub mod Fitting
pub mod MemoryVolume
pub mod Calls
pub mod Making

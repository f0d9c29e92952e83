pub mod Lending
pub mod FarmVolume
pub mod Making

pub mod SweepCall
pub mod SweepParts
pub mod Sweeps
pub mod StandIn

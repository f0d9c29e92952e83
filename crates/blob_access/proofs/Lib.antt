pub mod PutLemmas
mod Bytes
mod GetLemmas
mod GetBytes
mod Holding
pub mod ShortPuts
mod ShortGets
pub mod Later
mod LiveRows
mod HeardReads
pub mod LastTries
mod LiveCounts
mod ShortCauses
pub mod GivenBlobs
mod CauseExampleProofs
pub mod StandInSteps
pub mod StandInWay

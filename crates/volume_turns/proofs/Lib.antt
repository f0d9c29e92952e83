mod CallCauses
mod FaultTurns
pub mod Sessions
mod ObjectProofs
mod GotTurns

mod PieceLemmas
mod PutLemmas
mod GetLemmas
mod BegunProofs
mod AvailabilityProofs

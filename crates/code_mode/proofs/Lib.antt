pub mod AnyShards
pub mod Cutting
pub mod Joins
pub mod Numbers
pub mod PayloadLemmas
pub mod Pieces
pub mod Stripes

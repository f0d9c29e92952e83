pub mod Pieces
pub mod ObjectPut
pub mod ObjectGet
pub mod ObjectParts
pub mod RoundTrip
pub mod Availability

mod NewStations
mod FirstUnits
mod TargetTests
mod PayloadBytes
mod Ties

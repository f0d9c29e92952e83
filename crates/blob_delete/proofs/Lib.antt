mod SweepCounts
mod SweepCommits
mod SweepClaims
mod SweepLemmas
mod StandInSteps
mod StandInWay

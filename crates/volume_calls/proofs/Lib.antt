mod CallLemmas
mod FlushLemmas
mod StandInSteps
mod StandInWay

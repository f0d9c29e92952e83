pub mod CallForm
pub mod CutOff
pub mod SingleCalls
pub mod Flushes
pub mod FlushParts
pub mod StandIn

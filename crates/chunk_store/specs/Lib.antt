pub mod Chunk
pub mod Kept
pub mod Reading
pub mod Records
pub mod Starting
pub mod Writing

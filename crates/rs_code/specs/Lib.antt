pub mod Shards
pub mod ShardValue
pub mod RowCache
pub mod Differences
pub mod Shape

pub mod Mode
pub mod Payload
pub mod Stripe
pub mod VolumeShape
pub mod PayloadShard

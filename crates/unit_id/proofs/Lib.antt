pub mod Bools
pub mod Counts
pub mod Membership
pub mod Places
pub mod Tables

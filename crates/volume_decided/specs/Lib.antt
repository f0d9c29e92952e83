pub mod Decided
pub mod Stretch
pub mod OpenLogs

pub mod UnitName
pub mod Lists
pub mod Place
pub mod Shown
pub mod Request
pub mod Messages

pub mod Lists
pub mod Kept
pub mod Moves
pub mod Tokens

mod Append
mod Appending
mod Appends
mod Begin
mod Chain
pub mod Come
mod Counts
mod Examples
mod Fetch
mod Follow
mod InOrder
mod Onward
mod Rest
mod Starts
mod Steps
mod Through
mod Torn
mod Walk

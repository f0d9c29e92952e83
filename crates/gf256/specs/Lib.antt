pub mod Field
pub mod Halves
pub mod Sums
pub mod Rows

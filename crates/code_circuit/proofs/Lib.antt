pub mod Moves
pub mod Filling
pub mod Tables
pub mod Linear
pub mod Circuits

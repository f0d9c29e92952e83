pub mod Answers
pub mod Turn
pub mod Session
pub mod ObjectTurns

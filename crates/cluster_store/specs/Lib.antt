pub mod Plan
pub mod Lines
pub mod Store
pub mod Asking
pub mod Answers
pub mod Script

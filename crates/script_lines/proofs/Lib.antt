pub mod GivenLines
pub mod LineCuts
pub mod LineSteps

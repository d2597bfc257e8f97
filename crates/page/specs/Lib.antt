pub mod Answers
pub mod Console
pub mod Whole

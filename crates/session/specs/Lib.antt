pub mod Reckoned
pub mod Answers
pub mod Sessions

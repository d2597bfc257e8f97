pub mod Unique
pub mod Drafts
pub mod Steps
pub mod Letters
pub mod Grammar
pub mod Readings
pub mod Answers
pub mod Whole

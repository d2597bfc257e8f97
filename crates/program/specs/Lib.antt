pub mod Meaning
pub mod Edits
pub mod Graphs
pub mod Tidy
pub mod Steps
pub mod Ends

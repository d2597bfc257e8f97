pub mod Grammar
pub mod Parts
pub mod Drafts
pub mod Reads
pub mod Answer

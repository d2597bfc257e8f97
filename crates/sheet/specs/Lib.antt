pub mod Sets
pub mod Rows
pub mod Told
pub mod Tables
pub mod Sheets

pub mod Minute
pub mod Theorems

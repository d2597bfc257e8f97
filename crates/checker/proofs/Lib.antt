pub mod Cycles
pub mod Finds
pub mod Exclusive
pub mod Checks

pub mod Alikes
pub mod Minutes
pub mod Halves
pub mod Verdicts

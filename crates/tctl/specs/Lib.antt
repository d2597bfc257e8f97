pub mod Graph
pub mod Runs
pub mod Rules
pub mod Holds
pub mod Checker
pub mod Greatest
pub mod Refine
pub mod Theorems

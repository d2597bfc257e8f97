pub mod Faults
pub mod Outcomes
pub mod Found
pub mod Checks
pub mod Theorems
pub mod Desks

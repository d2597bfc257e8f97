pub mod Doing
pub mod Splits
pub mod Cuts
pub mod Kept

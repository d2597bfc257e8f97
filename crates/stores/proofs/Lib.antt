pub mod Kept
pub mod Joints
pub mod Refusals
pub mod Gaps
pub mod Areas
pub mod Trays

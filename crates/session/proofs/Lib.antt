pub mod Mains
pub mod Grows

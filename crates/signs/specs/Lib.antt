pub mod Signs
pub mod First
pub mod Writing

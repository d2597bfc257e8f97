pub mod Lines
pub mod Postorder
pub mod Notation
pub mod Once

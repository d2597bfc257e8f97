pub mod Algebras
pub mod Walks
pub mod Rounds
pub mod Sweeps
pub mod Tables

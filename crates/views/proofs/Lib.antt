pub mod Segments
pub mod Minutes
pub mod TableMoves
pub mod Views

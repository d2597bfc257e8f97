pub mod Schedules
pub mod Minutes
pub mod PieceTable
pub mod ScheduleLimits
pub mod ViewLimits

pub mod Printed
pub mod Told
pub mod Series

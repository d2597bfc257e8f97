pub mod Chains
pub mod Queues
pub mod Rings
pub mod Tended
pub mod Rows
pub mod Removals

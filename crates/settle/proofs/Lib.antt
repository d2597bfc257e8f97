pub mod Chains
pub mod Greatest
pub mod Queues
pub mod Removals
pub mod Tended

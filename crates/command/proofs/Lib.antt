pub mod Channels
pub mod Ways
pub mod Codes
pub mod Room
pub mod Locking
pub mod Settled
pub mod Examples
pub mod Costs

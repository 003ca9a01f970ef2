pub mod Asking
pub mod Writing
pub mod Parts
pub mod Room
pub mod Settled
pub mod Storing
pub mod Limits

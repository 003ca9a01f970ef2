pub mod Examples
pub mod Lists
pub mod Judging
pub mod Room
pub mod Ways
pub mod Storing
pub mod Settled

pub mod Examples
pub mod Lists
pub mod Room
pub mod Ways
pub mod Storing

pub mod Turns
pub mod Reducing
pub mod Examples

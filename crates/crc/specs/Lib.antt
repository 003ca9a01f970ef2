pub mod Sum
pub mod Joining

pub mod Going
pub mod Stopping

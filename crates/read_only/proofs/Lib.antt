pub mod Keeping
pub mod Runs
pub mod Listed
pub mod Examples
pub mod Turns
pub mod Files

pub mod ReadOnly
pub mod Runs
pub mod Listed
pub mod Files

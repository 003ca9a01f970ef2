pub mod Sealing
pub mod Saying

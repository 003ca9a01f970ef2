pub mod Replies
pub mod Ports

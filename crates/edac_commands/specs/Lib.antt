pub mod ReadEdac
pub mod WriteEdac
pub mod Gather
pub mod Storing

pub mod Bytes
pub mod Edac
pub mod Counts
pub mod Status

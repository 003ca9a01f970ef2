pub mod Examples
pub mod Tests
pub mod Refreshing
pub mod Ranges
pub mod Crossing
pub mod Turns
pub mod Counting

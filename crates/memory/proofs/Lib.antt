pub mod Examples
pub mod Stretches
pub mod Overlays
pub mod Tests
pub mod Files
pub mod Turns
pub mod FramStatus

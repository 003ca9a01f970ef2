pub mod Serving
pub mod Heard

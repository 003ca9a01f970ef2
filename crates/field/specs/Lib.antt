pub mod Fields
pub mod Reading

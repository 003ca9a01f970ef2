pub mod ReadFile
pub mod WriteFile
pub mod Storing

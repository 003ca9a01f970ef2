pub mod Refusing
pub mod Serving
pub mod Ways
pub mod Examples
pub mod Numbers

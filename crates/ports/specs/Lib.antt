pub mod Sides
pub mod Ports

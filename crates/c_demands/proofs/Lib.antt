pub mod Demands
pub mod Many

pub mod World
pub mod Commanded

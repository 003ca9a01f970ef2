pub mod Windows
pub mod Peek
pub mod Poke
pub mod Crc
pub mod ByAddress
pub mod Cost

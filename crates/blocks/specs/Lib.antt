pub mod Fram
pub mod Crossing
pub mod Cost
pub mod Lent

pub mod Borders
pub mod Examples
pub mod Room
pub mod Ways
pub mod Choosing
pub mod Storing
pub mod Costs

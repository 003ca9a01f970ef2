pub mod Face
pub mod Records

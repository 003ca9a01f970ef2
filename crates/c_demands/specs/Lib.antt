pub mod FromC
pub mod Many

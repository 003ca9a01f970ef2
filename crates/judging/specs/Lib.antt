pub mod Fitting
pub mod Judging

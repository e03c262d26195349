pub mod Fitting
pub mod Stored

pub mod Stretches
pub mod Values
pub mod Cuts

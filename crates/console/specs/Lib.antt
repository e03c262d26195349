pub mod Asking
pub mod Holding

pub mod Promised
pub mod Stands

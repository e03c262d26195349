pub mod Finding
pub mod Runs
pub mod Deciding

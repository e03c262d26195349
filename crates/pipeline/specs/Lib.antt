pub mod Apart
pub mod Slots
pub mod Stands
pub mod Pipeline

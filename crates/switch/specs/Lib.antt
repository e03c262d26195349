pub mod Starving
pub mod Stands
pub mod Stepping
pub mod Feeding

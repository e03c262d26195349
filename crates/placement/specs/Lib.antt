-- What placement's values stand for in the model.
pub mod Faults
pub mod Steps
pub mod Points
pub mod Offsets
pub mod Rows

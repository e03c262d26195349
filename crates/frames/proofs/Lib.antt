pub mod Advances
pub mod Lasts
pub mod Parts
pub mod Spelling

pub mod Listing
pub mod Stands
pub mod Alike

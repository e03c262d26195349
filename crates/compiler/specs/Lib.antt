pub mod Program
pub mod Packaging
pub mod Stands
pub mod Compiling
pub mod Refusals

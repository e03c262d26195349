pub mod Among
pub mod Loops
pub mod Declared

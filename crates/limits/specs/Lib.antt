pub mod Numbering
pub mod Naming
pub mod Bits
pub mod Tabling
pub mod Choosing
pub mod Doing
pub mod Once
pub mod Limits

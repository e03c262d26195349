pub mod Lines
pub mod Cuts
pub mod Alike
pub mod NeverAlike

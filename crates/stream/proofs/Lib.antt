pub mod Parting
pub mod Same
pub mod AsMeant

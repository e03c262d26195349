pub mod Turns
pub mod Places
pub mod Shift
pub mod Shifted
pub mod OneStep
pub mod Renewed
pub mod Start

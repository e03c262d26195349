-- Lemmas that the proofs of several functions share.
pub mod Stages
pub mod Counting
pub mod Bounds
pub mod Laying
pub mod Turns

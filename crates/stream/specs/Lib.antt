-- A stream of bytes through a switch. Read in this order.
pub mod Frames
pub mod Writing
pub mod Machine
pub mod Answering
pub mod Machines
pub mod Whole

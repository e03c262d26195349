pub mod Decoded
pub mod Numbers
pub mod Decoding
pub mod Stands
pub mod Answers

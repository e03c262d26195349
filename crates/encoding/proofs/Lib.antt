pub mod Reading
pub mod Backwards
pub mod OneEncoding
pub mod Counting
pub mod OnlyBytes

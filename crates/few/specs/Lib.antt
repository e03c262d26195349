-- Short vectors: what they hold.
pub mod Few

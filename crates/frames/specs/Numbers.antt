-- Numbers as bytes, high byte first.
use Rattle.std.specs.Prelude.{ℕ, ◌/◌, ◌%◌, List, [], ◌∷◌}
pub use Rattle.frames.specs.Answering.{four_bytes}

abbrev pub two_bytes : ℕ → List ℕ
two_bytes n = (n / 256 % 256) ∷ ((n % 256) ∷ [])

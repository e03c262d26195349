-- The bits of a header: the widths of its fields together.
use Rattle.std.specs.Prelude.{◌≡◌, ℕ, ◌+◌, ◌*◌, ◌≤◌, cond, List, [], ◌∷◌, ◌==◌, slice_index}
use Rattle.source.specs.Names.{Field}

unfoldable pub bits_of : List Field → (widths : List ℕ) → (header : ℕ) → ℕ
bits_of [] widths h = 0
bits_of (f ∷ fs) widths h = cond (f.header == h) (slice_index widths f.number) 0 + bits_of fs widths h

-- from 1 to 32 whole bytes
pub record WholeBytes (bits : ℕ) : Type 0 where
  pub bytes : ℕ
  pub whole : bits ≡ bytes * 8
  pub some : 1 ≤ bytes
  pub few : bytes ≤ 32

-- Numbers at the front of bytes, high byte first.
use Rattle.std.specs.Prelude.{ℕ, ◌+◌, ◌*◌, List, [], ◌∷◌, length}
use Rattle.update.specs.Decoded.{Decoded, Refused, RunsOut, Then}

-- the bytes run out within a number: the fault has the offset of their end
abbrev pub cut_short : ℕ → List ℕ → Decoded
cut_short at bs = Refused (RunsOut (at + length bs))

abbrev pub byte_at : ℕ → List ℕ → Then ℕ → Decoded
byte_at at [] k = cut_short at []
byte_at at (b ∷ bs) k = k b (at + 1) bs

abbrev pub half_at : ℕ → List ℕ → Then ℕ → Decoded
half_at at [] k = cut_short at []
half_at at (a ∷ []) k = cut_short at (a ∷ [])
half_at at (a ∷ (b ∷ bs)) k = k (a * 256 + b) (at + 2) bs

abbrev pub word_at : ℕ → List ℕ → Then ℕ → Decoded
word_at at [] k = cut_short at []
word_at at (a ∷ []) k = cut_short at (a ∷ [])
word_at at (a ∷ (b ∷ [])) k = cut_short at (a ∷ (b ∷ []))
word_at at (a ∷ (b ∷ (c ∷ []))) k = cut_short at (a ∷ (b ∷ (c ∷ [])))
word_at at (a ∷ (b ∷ (c ∷ (d ∷ bs)))) k = k (((a * 256 + b) * 256 + c) * 256 + d) (at + 4) bs

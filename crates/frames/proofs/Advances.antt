-- Serving goes on by whole frames, and not otherwise for bytes that come later.
use Rattle.std.proofs.Common.{◌≡◌, ℕ, ◌+◌, ◌<◌, ◌≤◌, Bool, true, false, List, [], ◌∷◌, ◌++◌, length, refl, ap, arith}
use Rattle.frames.specs.declared.kind.Kind.{Kind}
use Rattle.frames.specs.declared.kind.Kind.TheVariants.{Source, Update, Packet}
use Rattle.frames.specs.declared.served.Served.TheVariants.{More}
use Rattle.frames.specs.Laws.{Followed, Early, Within, Advancing}
use Rattle.frames.specs.Reading.{Read, Empty, Pause, Whole, Cut, Unknown, read, size}
use Rattle.frames.specs.Serving.{silent, on_whole, on_front}
use Rattle.frames.proofs.Lasts.{lasting}
use Rattle.frames.proofs.Parts.{whole_size}

same_front : (r s : Read) (more : List ℕ) (ended : Bool) → Followed r more s → (on_front r false ≡ silent More → ⊥) → on_front s ended ≡ on_front r false
same_front Empty s more ended f h = absurd (h refl)
same_front (Pause rest) s more ended f h = ap (λ x. on_front x ended) f
same_front (Whole k body rest) s more ended f h = ap (λ x. on_front x ended) f
same_front (Cut k) s more ended f h = absurd (h refl)
same_front Unknown s more ended f h = ap (λ x. on_front x ended) f

pub early : Early
early bs more ended h = same_front (read bs) (read (bs ++ more)) more ended (lasting bs more) h

-- a pause has its kind byte
some_byte : (bs rest : List ℕ) → read bs ≡ Pause rest → 0 < length bs
some_byte [] rest e = let z : ◌≡◌ {A = ℕ} 0 1 = cc in absurd (omega arith)
some_byte (b ∷ bs) rest e = omega arith

whole_within : (k : Kind) (u n : ℕ) → 0 < u → u ≤ n → Within (on_whole k u).result n
whole_within Source u n p q = tt
whole_within Update u n p q = (p, q)
whole_within Packet u n p q = (p, q)

front_within : (bs : List ℕ) (ended : Bool) (r : Read) → read bs ≡ r → Within (on_front r ended).result (length bs)
front_within bs true Empty e = tt
front_within bs false Empty e = tt
front_within bs ended (Pause rest) e = (omega arith, some_byte bs rest e)
front_within bs ended (Whole k body rest) e =
    let n : length bs ≡ size k body + length rest = whole_size bs k body rest e in
    whole_within k (size k body) (length bs) (omega arith) (omega arith)
front_within bs true (Cut k) e = tt
front_within bs false (Cut k) e = tt
front_within bs ended Unknown e = tt

pub advancing : Advancing
advancing bs ended = front_within bs ended (read bs) refl

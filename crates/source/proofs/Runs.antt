-- The first choice whose header was never declared, and the steps of the loop over tokens.
use Rattle.std.proofs.Common.{[], MatchOption, ◌≡◌, ℕ, zero, suc, ◌<◌, Bool, true, false, cond, List, ◌∷◌, map, length, get_or, Some, None, Option, sym, refl, ap, ◌∙◌, arith}
use Rattle.std.proofs.lemmas.Bool.{false≢true}
use Rattle.token.specs.Tokens.{Kind, Word, Number, Huge, Mark, Other, End, Token, behind}
use Rattle.source.specs.declared.fault.Fault.{Fault}
use Rattle.source.specs.declared.seen.Choice.{Choice}
use Rattle.source.specs.Names.{Entry}
use Rattle.source.specs.State.{Phase, Seen}
use Rattle.source.specs.Steps.{Step, go, stop, is_end}
use Rattle.source.specs.Reading.{missing, or_else, unnamed, step, taken, refused, onward, run}
use Rattle.source.specs.Stands.{choice_of}

-- up to an index, no choice misses its header
abbrev pub NoneBelow : List Entry → List Choice → ℕ → Type 0
NoneBelow hs cs n = (k : ℕ) (d : Choice) → k < n → missing hs (choice_of (get_or cs k d)).next ≡ None

-- the first choice that misses its header, and its offset
abbrev pub FirstAt : List Entry → List Choice → ℕ → Type 0
FirstAt hs cs at = (i : ℕ) × ((i < length cs) × (((d : Choice) → missing hs (choice_of (get_or cs i d)).next ≡ Some at) × NoneBelow hs cs i))

unnamed_none : (hs : List Entry) (cs : List Choice) → NoneBelow hs cs (length cs) → unnamed hs (map choice_of cs) ≡ None
unfolding unnamed
unnamed_none hs [] h = refl
unnamed_none hs (c ∷ cs) h =
    ap (λ (o : Option ℕ). or_else o (unnamed hs (map choice_of cs))) (h 0 c (omega arith)) ∙ unnamed_none hs cs (λ k d l. h (suc k) d (omega (arith, l)))

unnamed_some : (hs : List Entry) (cs : List Choice) (at i : ℕ) → i < length cs → ((d : Choice) → missing hs (choice_of (get_or cs i d)).next ≡ Some at) → NoneBelow hs cs i →
    unnamed hs (map choice_of cs) ≡ Some at
unfolding unnamed
unnamed_some hs [] at i l e h = absurd (omega arith)
unnamed_some hs (c ∷ cs) at zero l e h = ap (λ (o : Option ℕ). or_else o (unnamed hs (map choice_of cs))) (e c)
unnamed_some hs (c ∷ cs) at (suc i) l e h =
    ap (λ (o : Option ℕ). or_else o (unnamed hs (map choice_of cs))) (h 0 c (omega arith)) ∙ unnamed_some hs cs at i (omega arith) e (λ k d m. h (suc k) d (omega (arith, m)))

pub unnamed_first : (hs : List Entry) (cs : List Choice) (r : Option ℕ) → MatchOption r (NoneBelow hs cs (length cs)) (FirstAt hs cs) → r ≡ unnamed hs (map choice_of cs)
unnamed_first hs cs None h = sym (unnamed_none hs cs h)
unnamed_first hs cs (Some at) h = sym (unnamed_some hs cs at h.0 h.1.0 h.1.1.0 h.1.1.1)

not_end : (k : Kind) (ts : List Token) → is_end k ≡ false → behind k ts ≡ ts
not_end (Word w) ts e = refl
not_end (Number n) ts e = refl
not_end Huge ts e = refl
not_end (Mark s) ts e = refl
not_end Other ts e = refl
not_end End ts e = absurd (false≢true (sym e))

run_at : (p : Phase) (d : Seen) (x : Token) (ts us : List Token) (s : Step) → ts ≡ x ∷ us → step p d x ≡ s →
    run p d ts ≡ onward (is_end x.kind) (λ q e. run q e us) s
unfolding run
run_at p d x ts us s t e = ap (run p d) t ∙ ap (onward (is_end x.kind) (λ q f. run q f us)) e

pub goes_on : (p q : Phase) (d e : Seen) (x : Token) (ts us : List Token) → ts ≡ x ∷ behind x.kind us → step p d x ≡ go q e → is_end x.kind ≡ false → run q e us ≡ run p d ts
goes_on p q d e x ts us t s f =
    sym (run_at p d x ts (behind x.kind us) (go q e) t s
    ∙ (ap (λ (b : Bool). cond b (taken e) (run q e (behind x.kind us))) f ∙ ap (run q e) (not_end x.kind us f)))

pub ends_here : (p q : Phase) (d e : Seen) (x : Token) (ts us : List Token) → ts ≡ x ∷ behind x.kind us → step p d x ≡ go q e → is_end x.kind ≡ true → run p d ts ≡ taken e
ends_here p q d e x ts us t s f =
    run_at p d x ts (behind x.kind us) (go q e) t s ∙ ap (λ (b : Bool). cond b (taken e) (run q e (behind x.kind us))) f

pub stops_here : (p : Phase) (d : Seen) (x : Token) (ts us : List Token) (f : Fault) → ts ≡ x ∷ behind x.kind us → step p d x ≡ stop f → run p d ts ≡ refused f
stops_here p d x ts us f t s = run_at p d x ts (behind x.kind us) (stop f) t s

pub fewer : (x : Token) (ts us : List Token) → ts ≡ x ∷ behind x.kind us → is_end x.kind ≡ false → length us < length ts
fewer x ts us t f =
    let e : length ts ≡ length (x ∷ us) = ap length (t ∙ ap (λ (vs : List Token). x ∷ vs) (not_end x.kind us f)) in
    omega (arith, e)

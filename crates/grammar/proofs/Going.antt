-- Reading the pieces of a spelling, one after another.
use Rattle.std.proofs.Common.{◌≡◌, ℕ, ◌^◌, ◌<◌, ◌≤◌, Bool, true, false, cond, ltb, List, ◌∷◌, length, Some, None, Option, sym, refl, ap, ◌∙◌, subst, arith}
use Rattle.std.proofs.lemmas.Bool.{cond-true, cond-false, lt-ltb, le-ltb}
use Rattle.token.specs.declared.token.Sign.{Sign}
use Rattle.token.specs.declared.token.Sign.TheVariants.{Dot}
use Rattle.token.specs.Tokens.{Kind, Word, Number, Mark, Token, token}
use Rattle.source.specs.Names.{find_in}
use Rattle.source.specs.State.{Names, Phase, Seen, InField, Purpose, Behind, Member}
use Rattle.source.specs.Steps.{Step, go, is_end, is_sign, number, known, or_count, or_range, fresh, room}
use Rattle.source.specs.Using.{header_for, field_for, has_room_for, past, behind_name}
use Rattle.source.specs.Reading.{step, Outcome, taken, onward, run}
use Rattle.grammar.specs.Syntax.{Reference, Bare, Dotted}
use Rattle.grammar.specs.Spelling as spelling
use Rattle.grammar.specs.Spelling.{Piece, piece, piece_at, reference, At, Fits, one}
use Rattle.grammar.specs.Lookup.{Known, the, in_header}

-- what is left of the tokens where reading has come to a phase
pub record Left (o : Outcome) (q : Phase) (e : Seen) (js : List Piece) : Type 0 where
  pub rest : List Token
  pub fits : Fits js rest
  pub same : o ≡ run q e rest

-- tokens that are spelt ks are read from one phase to another, and js is left
pub record Goes (p : Phase) (d : Seen) (ks : List Piece) (q : Phase) (e : Seen) (js : List Piece) : Type 0 where
  pub goes : (ts : List Token) → Fits ks ts → Left (run p d ts) q e js

pub stay : {p : Phase} {d : Seen} {ks : List Piece} → Goes p d ks p d ks
stay = record { goes = λ ts f. record { rest = ts; fits = f; same = refl } }

pub next : {p q r : Phase} {d e f : Seen} {ks js is : List Piece} → Goes p d ks q e js → Goes q e js r f is → Goes p d ks r f is
next a b = record {
  goes = λ ts f.
      let m = a.goes ts f in
      let n = b.goes m.rest m.fits in
      record { rest = n.rest; fits = n.fits; same = m.same ∙ n.same };
}

-- one token that does not end the source
run_one : (p q : Phase) (d e : Seen) (x : Token) (xs : List Token) → is_end x.kind ≡ false → step p d x ≡ go q e → run p d (x ∷ xs) ≡ run q e xs
unfolding run
run_one p q d e x xs b s = ap (onward (is_end x.kind) (λ q e. run q e xs)) s ∙ ap (λ (t : Bool). cond t (taken e) (run q e xs)) b

first_fits : (p : Phase) (d : Seen) {q : Phase} {e : Seen} {ks : List Piece} (k : Piece) → is_end k.kind ≡ false →
    ((x : Token) → x.kind ≡ k.kind → At k.at x.at → step p d x ≡ go q e) → (ts : List Token) → Fits (k ∷ ks) ts → Left (run p d ts) q e ks
first_fits p d {q} {e} k n s ts (one {x = x} {xs = xs} c a f) =
    record { rest = xs; fits = f; same = run_one p q d e x xs (ap is_end c ∙ n) (s x c a) }

-- a token as its kind and its offset
pub as_kind : (P : Token → Type 0) (x : Token) (k : Kind) → x.kind ≡ k → P (token k x.at) → P x
as_kind P x k e h = subst (λ (c : Kind). P (token c x.at)) (sym e) h

pub by : {p q : Phase} {d e : Seen} {ks : List Piece} (k : Kind) → is_end k ≡ false → ((i : ℕ) → step p d (token k i) ≡ go q e) → Goes p d (piece k ∷ ks) q e ks
by {p} {q} {d} {e} k n s =
    record { goes = first_fits p d (piece k) n (λ x c a. as_kind (λ (y : Token). step p d y ≡ go q e) x k c (s x.at)) }

pub by_at : {p q : Phase} {d e : Seen} {ks : List Piece} (o : ℕ) (k : Kind) → is_end k ≡ false → step p d (token k o) ≡ go q e → Goes p d (piece_at o k ∷ ks) q e ks
by_at {p} {q} {d} {e} o k n s =
    record { goes = first_fits p d (piece_at o k) n (λ x c a. as_kind (λ (y : Token). step p d y ≡ go q e) x k c (subst (λ (i : ℕ). step p d (token k i) ≡ go q e) (sym a) s)) }

-- a word and a sign, where the word's offset is held in between
two_fit : (p : Phase) (d : Seen) {q : Phase} {e : Seen} {ks : List Piece} (w : List ℕ) (s : Sign) (m : ℕ → Phase) → ((i : ℕ) → step p d (token (Word w) i) ≡ go (m i) d) →
    ((i j : ℕ) → step (m i) d (token (Mark s) j) ≡ go q e) → (ts : List Token) → Fits (piece (Word w) ∷ piece (Mark s) ∷ ks) ts → Left (run p d ts) q e ks
two_fit p d {q} {e} w s m a b ts (one {x = x} {xs = xs} c o (one {x = y} {xs = ys} k n f)) =
    record {
      rest = ys;
      fits = f;
      same =
          run_one p (m x.at) d d x xs (ap is_end c) (as_kind (λ (y : Token). step p d y ≡ go (m x.at) d) x (Word w) c (a x.at))
          ∙ run_one (m x.at) q d e y ys (ap is_end k) (as_kind (λ (z : Token). step (m x.at) d z ≡ go q e) y (Mark s) k (b x.at y.at));
    }

pub two : {p q : Phase} {d e : Seen} {ks : List Piece} (w : List ℕ) (s : Sign) (m : ℕ → Phase) → ((i : ℕ) → step p d (token (Word w) i) ≡ go (m i) d) →
    ((i j : ℕ) → step (m i) d (token (Mark s) j) ≡ go q e) → Goes p d (piece (Word w) ∷ piece (Mark s) ∷ ks) q e ks
two {p} {d = d} w s m a b = record { goes = two_fit p d w s m a b }

-- a state that is another
pub to_state : {p q : Phase} {d e f : Seen} {ks js : List Piece} → e ≡ f → Goes p d ks q e js → Goes p d ks q f js
to_state {p} {q} {d} {e} {f} {ks} {js} i g = subst (λ (s : Seen). Goes p d ks q s js) i g

pub known_is : (o : Option ℕ) → Known o → o ≡ Some (the o)
known_is (Some n) e = refl
known_is None e = elim (mathlib.Core.Bool.false≢true e) [ ]

-- a name that is known
pub known_goes : (at g : ℕ) (o : Option ℕ) (k : ℕ → Step) → o ≡ Some g → known at o k ≡ k g
known_goes at g o k e = ap (λ (x : Option ℕ). known at x k) e

pub cond_goes : (b : Bool) (s t : Step) → b ≡ true → cond b s t ≡ s
cond_goes b s t e = cond-true b s t e

pub cond_passes : (b : Bool) (s t : Step) → b ≡ false → cond b s t ≡ t
cond_passes b s t e = cond-false b s t e

-- a name that is declared, of which there is room for one more
pub fresh_goes : (b : Bool) (at n limit : ℕ) (w : List ℕ) (k : List ℕ → ℕ → Step) → b ≡ false → length w ≤ 24 → n < limit →
    fresh b at w (λ v. room at n limit (k v)) ≡ k w n
fresh_goes b at n limit w k t l r =
    cond-false b _ _ t
    ∙ (ap (λ (o : Option (List ℕ)). or_range at o (λ v. room at n limit (k v))) (cond-false (ltb 24 (length w)) None (Some w) (le-ltb 24 (length w) l))
    ∙ ap (λ (o : Option ℕ). or_count at o (k w)) (cond-true (ltb n limit) (Some n) None (lt-ltb n limit r)))

pub room_goes : (at n limit : ℕ) (k : ℕ → Step) → n < limit → room at n limit k ≡ k n
room_goes at n limit k h = ap (λ (o : Option ℕ). or_count at o k) (cond-true (ltb n limit) (Some n) None (lt-ltb n limit h))

pub both_true : (a b : Bool) (s t u : Step) → a ≡ true → b ≡ true → cond a (cond b s t) u ≡ s
both_true a b s t u e f = cond-true a (cond b s t) u e ∙ cond-true b s t f

pub number_goes : (m i : ℕ) (k : ℕ → Step) → m < 2 ^ 32 → number (token (Number m) i) k ≡ k m
number_goes m i k h = cond-true (ltb m (2 ^ 32)) _ _ (lt-ltb m (2 ^ 32) h)

-- a field: what it stands for where it is read for some purpose
abbrev pub stands_for : Purpose → Names → Reference → Option ℕ
stands_for u n (Bare w) = field_for u n w
stands_for u n (Dotted h w) = in_header n.fields (header_for u n h) w

behind_bare : (u : Purpose) (h f : Option ℕ) (i g : ℕ) (d : Seen) (x : Token) → is_sign Dot x.kind ≡ false → f ≡ Some g → has_room_for u d ≡ true →
    behind_name u h f i d x ≡ past u g d x
behind_bare u h f i g d x n e r = cond-false (is_sign Dot x.kind) _ _ n ∙ (known_goes i g f _ e ∙ cond-true (has_room_for u d) _ _ r)

behind_dot : (u : Purpose) (h f : Option ℕ) (i k j : ℕ) (d : Seen) → h ≡ Some k → has_room_for u d ≡ true →
    behind_name u h f i d (token (Mark Dot) j) ≡ go (InField u (Member k)) d
behind_dot u h f i k j d e r = known_goes i k h _ e ∙ cond-true (has_room_for u d) _ _ r

-- a header that has a field is known
pub record Both (n : Names) (u : Purpose) (h w : List ℕ) (g : ℕ) : Type 0 where
  pub header : ℕ
  pub is : header_for u n h ≡ Some header
  pub has : find_in n.fields header w ≡ Some g

both_by : (n : Names) (u : Purpose) (h w : List ℕ) (g : ℕ) (o : Option ℕ) → header_for u n h ≡ o → in_header n.fields o w ≡ Some g → Both n u h w g
both_by n u h w g (Some k) e f = record { header = k; is = e; has = f }
both_by n u h w g None e f = let z : ◌≡◌ {A = ℕ} 0 1 = cc in absurd (omega arith)

both : (n : Names) (u : Purpose) (h w : List ℕ) (g : ℕ) → stands_for u n (Dotted h w) ≡ Some g → Both n u h w g
both n u h w g e = both_by n u h w g (header_for u n h) refl e

module _ (u : Purpose) (p : Phase) (d : Seen)
    (start : (w : List ℕ) (i : ℕ) → step p d (token (Word w) i) ≡ go (InField u (Behind (header_for u d.names w) (field_for u d.names w) i)) d)
    (g : ℕ) (s : Sign) (room_for : has_room_for u d ≡ true) (no-dot : is_sign Dot (Mark s) ≡ false) where
  dotted : {q : Phase} {e : Seen} {ks : List Piece} (h w : List ℕ) → Both d.names u h w g → ((j : ℕ) → past u g d (token (Mark s) j) ≡ go q e) →
      Goes p d (reference (Dotted h w) (spelling.sign s ∷ ks)) q e ks
  dotted h w b k =
      next (two h Dot (λ i. InField u (Behind (header_for u d.names h) (field_for u d.names h) i)) (start h) (λ i j. behind_dot u (header_for u d.names h) (field_for u d.names h) i b.header j d b.is room_for))
      (next (by (Word w) refl (λ i. known_goes i g _ _ b.has)) (by (Mark s) refl k))

  pub refers : {q : Phase} {e : Seen} {ks : List Piece} (r : Reference) → stands_for u d.names r ≡ Some g → ((j : ℕ) → past u g d (token (Mark s) j) ≡ go q e) →
      Goes p d (reference r (spelling.sign s ∷ ks)) q e ks
  refers (Bare w) e k =
      two w s (λ i. InField u (Behind (header_for u d.names w) (field_for u d.names w) i)) (start w) (λ i j. behind_bare u _ _ i g d (token (Mark s) j) no-dot e room_for ∙ k j)
  refers (Dotted h w) e k = dotted h w (both d.names u h w g e) k

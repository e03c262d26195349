-- Tokens that are read one after another: what each must have been.
use Rattle.std.proofs.Common.{◌≡◌, ℕ, zero, suc, ◌^◌, ◌<◌, ◌≤◌, Bool, true, false, cond, ltb, List, [], ◌∷◌, length, Some, None, Option, sym, refl, ap, ◌∙◌, subst, arith}
use Rattle.std.proofs.lemmas.Bool.{eqb-true, ltb-true, ltb-false, false≢true}
use Rattle.std.proofs.lemmas.Slice.Eq.{bytes_eq-Decides}
use Rattle.token.specs.declared.token.Sign.{Sign}
use Rattle.token.specs.declared.token.Sign.TheVariants.{Open, Close, Semicolon, Colon, Comma, Dot, Is, Equals, Less}
use Rattle.token.specs.Tokens.{Kind, Word, Number, Huge, Mark, Other, End, Token, token}
use Rattle.source.specs.declared.fault.Fault.{Fault}
use Rattle.source.specs.declared.fault.Fault.TheVariants.{Range}
use Rattle.source.specs.State.{Phase, Item, Seen}
use Rattle.source.specs.Steps.{Step, go, stop, place, is_end, is_sign, says, word_of, number_of, sign, keyword, word, number, known, or_unawaited, or_range, or_count, fresh, room}
use Rattle.source.specs.Reading.{step, Outcome, taken, refused, onward, run}
use Rattle.grammar.specs.Spelling.{Piece, piece, piece_at, Fits, one}
use Rattle.grammar.specs.Laws.{Ended, last, more}
use Rattle.grammar.proofs.Going.{as_kind}
use Rattle.grammar.proofs.Ending.{is_item, Stopped, stopped, end_stops}

-- what a step leads to with the tokens behind it
abbrev pub afterwards : Step → List Token → Outcome
afterwards (go p d) ts = run p d ts
afterwards (stop f) ts = refused f

-- a step from which the tokens behind it are read to their end, and leave g
pub record After (s : Step) (ts : List Token) (g : Seen) : Type 0 where
  pub ended : Ended ts
  pub takes : afterwards s ts ≡ taken g

pub never : {R : Type 0} (f : Fault) (g : Seen) → refused f ≡ taken g → R
never f g e = let z : ◌≡◌ {A = ℕ} 0 1 = cc in absurd (omega arith)

pub refuses : {R : Type 0} {f : Fault} {ts : List Token} {g : Seen} → After (stop f) ts g → R
refuses {f = f} {g = g} a = never f g a.takes

stopped_never : {R : Type 0} {s : Step} (g : Seen) (ends : Bool) (k : Phase → Seen → Outcome) → Stopped s → onward ends k s ≡ taken g → R
stopped_never g ends k (stopped f) e = never f g e

-- a token that is not the end
not_end : (s : Step) (xs : List Token) → onward false (λ q e. run q e xs) s ≡ afterwards s xs
not_end (go p d) xs = refl
not_end (stop f) xs = refl

-- where no item is awaited, there is a token, and it is not the end
next_by_lem : {R : Type 0} (p : Phase) (d : Seen) (ts : List Token) (g : Seen) → is_item p ≡ false → Ended ts → run p d ts ≡ taken g →
    ((x : Token) (xs : List Token) → ts ≡ x ∷ xs → After (step p d x) xs g → R) → R
unfolding run
next_by_lem p d ts g i (last {x = x} e) h k =
    stopped_never g (is_end x.kind) (λ q e. run q e []) (as_kind (λ (y : Token). Stopped (step p d y)) x End e (end_stops d x.at p i)) h
next_by_lem p d ts g i (more {x = x} {xs = xs} b e) h k =
    k x xs refl (record { ended = e; takes = sym (ap (λ (t : Bool). onward t (λ q e. run q e xs) (step p d x)) b ∙ not_end (step p d x) xs) ∙ h })

pub next : {R : Type 0} {p : Phase} {d : Seen} {ts : List Token} {g : Seen} → is_item p ≡ false → After (go p d) ts g →
    ((x : Token) (xs : List Token) → ts ≡ x ∷ xs → After (step p d x) xs g → R) → R
next {p = p} {d} {ts} {g} i a k = next_by_lem p d ts g i a.ended a.takes k

-- where an item is awaited, the token is the end, or it is not
item_by : {R : Type 0} (d : Seen) (ts : List Token) (g : Seen) → Ended ts → run Item d ts ≡ taken g →
    ((x : Token) → ts ≡ x ∷ [] → x.kind ≡ End → onward true (λ q e. run q e []) (step Item d (token End x.at)) ≡ taken g → R) →
    ((x : Token) (xs : List Token) → ts ≡ x ∷ xs → is_end x.kind ≡ false → After (step Item d x) xs g → R) → R
unfolding run
item_by d ts g (last {x = x} e) h k m = k x refl e (subst (λ (c : Kind). onward (is_end c) (λ q e. run q e []) (step Item d (token c x.at)) ≡ taken g) e h)
item_by d ts g (more {x = x} {xs = xs} b e) h k m =
    m x xs refl b (record { ended = e; takes = sym (ap (λ (t : Bool). onward t (λ q e. run q e xs) (step Item d x)) b ∙ not_end (step Item d x) xs) ∙ h })

pub next_item : {R : Type 0} {d : Seen} {ts : List Token} {g : Seen} → After (go Item d) ts g →
    ((x : Token) → ts ≡ x ∷ [] → x.kind ≡ End → onward true (λ q e. run q e []) (step Item d (token End x.at)) ≡ taken g → R) →
    ((x : Token) (xs : List Token) → ts ≡ x ∷ xs → is_end x.kind ≡ false → After (step Item d x) xs g → R) → R
next_item {d = d} {ts} {g} a k m = item_by d ts g a.ended a.takes k m

-- what a token's kind must be
sign_at : ℕ → Sign
sign_at zero = Open
sign_at (suc zero) = Close
sign_at (suc (suc zero)) = Semicolon
sign_at (suc (suc (suc zero))) = Colon
sign_at (suc (suc (suc (suc zero)))) = Comma
sign_at (suc (suc (suc (suc (suc zero))))) = Dot
sign_at (suc (suc (suc (suc (suc (suc zero)))))) = Is
sign_at (suc (suc (suc (suc (suc (suc (suc zero))))))) = Equals
sign_at (suc (suc (suc (suc (suc (suc (suc (suc n)))))))) = Less

sign_at_lem : (s : Sign) → sign_at (place s) ≡ s
unfolding sign_at
sign_at_lem Open = refl
sign_at_lem Close = refl
sign_at_lem Semicolon = refl
sign_at_lem Colon = refl
sign_at_lem Comma = refl
sign_at_lem Dot = refl
sign_at_lem Is = refl
sign_at_lem Equals = refl
sign_at_lem Less = refl

pub is_sign_lem : (s : Sign) (k : Kind) → is_sign s k ≡ true → k ≡ Mark s
is_sign_lem s (Word w) e = absurd (false≢true e)
is_sign_lem s (Number n) e = absurd (false≢true e)
is_sign_lem s Huge e = absurd (false≢true e)
is_sign_lem s (Mark t) e = ap Mark (sym (sign_at_lem t) ∙ (ap sign_at (eqb-true (place t) (place s) e) ∙ sign_at_lem s))
is_sign_lem s Other e = absurd (false≢true e)
is_sign_lem s End e = absurd (false≢true e)

pub is_word : (v : List ℕ) (k : Kind) → says v k ≡ true → k ≡ Word v
is_word v (Word w) e = ap Word ((bytes_eq-Decides w v).0 e)
is_word v (Number n) e = absurd (false≢true e)
is_word v Huge e = absurd (false≢true e)
is_word v (Mark t) e = absurd (false≢true e)
is_word v Other e = absurd (false≢true e)
is_word v End e = absurd (false≢true e)

-- a test, and what was awaited
pub took_if : {R : Type 0} (b : Bool) {s t : Step} {xs : List Token} {g : Seen} → After (cond b s t) xs g → (b ≡ true → After s xs g → R) → (b ≡ false → After t xs g → R) → R
took_if true a yes-case no_case = yes-case refl a
took_if false a yes-case no_case = no_case refl a

pub took_sign : {R : Type 0} (s : Sign) (x : Token) (k : Step) {xs : List Token} {g : Seen} → After (sign s x k) xs g → (x.kind ≡ Mark s → After k xs g → R) → R
took_sign s x k a r = took_if (is_sign s x.kind) a (λ e b. r (is_sign_lem s x.kind e) b) (λ e b. refuses b)

took_keyword : {R : Type 0} (v : List ℕ) (x : Token) (k : Step) {xs : List Token} {g : Seen} → After (keyword v x k) xs g → (x.kind ≡ Word v → After k xs g → R) → R
took_keyword v x k a r = took_if (says v x.kind) a (λ e b. r (is_word v x.kind e) b) (λ e b. refuses b)

word_by : {R : Type 0} (c : Kind) (at : ℕ) (k : List ℕ → Step) {xs : List Token} {g : Seen} → After (or_unawaited at (word_of c) k) xs g → ((w : List ℕ) → c ≡ Word w → After (k w) xs g → R) → R
word_by (Word w) at k a r = r w refl a
word_by (Number n) at k a r = refuses a
word_by Huge at k a r = refuses a
word_by (Mark t) at k a r = refuses a
word_by Other at k a r = refuses a
word_by End at k a r = refuses a

pub took_word : {R : Type 0} (x : Token) (k : List ℕ → Step) {xs : List Token} {g : Seen} → After (word x k) xs g → ((w : List ℕ) → x.kind ≡ Word w → After (k w) xs g → R) → R
took_word x k a r = word_by x.kind x.at k a r

number_by : {R : Type 0} (c : Kind) (at : ℕ) (k : ℕ → Step) {xs : List Token} {g : Seen} →
    After (or_unawaited at (number_of c) (λ n. cond (ltb n (2 ^ 32)) (k n) (stop (Range at)))) xs g → ((n : ℕ) → c ≡ Number n → n < 2 ^ 32 → After (k n) xs g → R) → R
number_by (Word w) at k a r = refuses a
number_by (Number n) at k a r = took_if (ltb n (2 ^ 32)) a (λ e b. r n refl (ltb-true n (2 ^ 32) e) b) (λ e b. refuses b)
number_by Huge at k a r = refuses a
number_by (Mark t) at k a r = refuses a
number_by Other at k a r = refuses a
number_by End at k a r = refuses a

pub took_number : {R : Type 0} (x : Token) (k : ℕ → Step) {xs : List Token} {g : Seen} → After (number x k) xs g → ((n : ℕ) → x.kind ≡ Number n → n < 2 ^ 32 → After (k n) xs g → R) → R
took_number x k a r = number_by x.kind x.at k a r

pub took_known : {R : Type 0} (at : ℕ) (o : Option ℕ) (k : ℕ → Step) {xs : List Token} {g : Seen} → After (known at o k) xs g → ((n : ℕ) → o ≡ Some n → After (k n) xs g → R) → R
took_known at (Some n) k a r = r n refl a
took_known at None k a r = refuses a

pub took_room : {R : Type 0} (at n limit : ℕ) (k : ℕ → Step) {xs : List Token} {g : Seen} → After (room at n limit k) xs g → (n < limit → After (k n) xs g → R) → R
took_room {R} at n limit k {xs} {g} a r = by_test (ltb n limit) refl a
  where
    by_test : (b : Bool) → ltb n limit ≡ b → After (or_count at (cond b (Some n) None) k) xs g → R
    by_test true e a = r (ltb-true n limit e) a
    by_test false e a = refuses a

pub took_fresh : {R : Type 0} (b : Bool) (at n limit : ℕ) (w : List ℕ) (k : List ℕ → ℕ → Step) {xs : List Token} {g : Seen} →
    After (fresh b at w (λ v. room at n limit (k v))) xs g → (b ≡ false → length w ≤ 24 → n < limit → After (k w n) xs g → R) → R
took_fresh {R} b at n limit w k {xs} {g} a r = took_if b a (λ e c. refuses c) (λ e c. by_test (ltb 24 (length w)) refl e c)
  where
    by_test : (t : Bool) → ltb 24 (length w) ≡ t → b ≡ false → After (or_range at (cond t None (Some w)) (λ v. room at n limit (k v))) xs g → R
    by_test true e f c = refuses c
    by_test false e f c = took_room at n limit (k w) c (λ l d. r f (ltb-false 24 (length w) e) l d)

-- the next token is a sign, a word of its own, any word, or a number
pub next_sign : {R : Type 0} {p : Phase} {d : Seen} {ts : List Token} {g : Seen} {k : Token → Step} (s : Sign) → is_item p ≡ false →
    ((x : Token) → step p d x ≡ sign s x (k x)) → After (go p d) ts g → ((x : Token) (xs : List Token) → ts ≡ x ∷ xs → x.kind ≡ Mark s → After (k x) xs g → R) → R
next_sign {g = g} {k} s i e a r =
    next i a (λ x xs t b. took_sign s x (k x) (subst (λ (m : Step). After m xs g) (e x) b) (λ c h. r x xs t c h))

pub next_keyword : {R : Type 0} {p : Phase} {d : Seen} {ts : List Token} {g : Seen} {k : Token → Step} (v : List ℕ) → is_item p ≡ false →
    ((x : Token) → step p d x ≡ keyword v x (k x)) → After (go p d) ts g → ((x : Token) (xs : List Token) → ts ≡ x ∷ xs → x.kind ≡ Word v → After (k x) xs g → R) → R
next_keyword {g = g} {k} v i e a r =
    next i a (λ x xs t b. took_keyword v x (k x) (subst (λ (m : Step). After m xs g) (e x) b) (λ c h. r x xs t c h))

pub next_word : {R : Type 0} {p : Phase} {d : Seen} {ts : List Token} {g : Seen} {k : Token → List ℕ → Step} → is_item p ≡ false →
    ((x : Token) → step p d x ≡ word x (k x)) → After (go p d) ts g →
    ((x : Token) (xs : List Token) (w : List ℕ) → ts ≡ x ∷ xs → x.kind ≡ Word w → After (k x w) xs g → R) → R
next_word {g = g} {k} i e a r =
    next i a (λ x xs t b. took_word x (k x) (subst (λ (m : Step). After m xs g) (e x) b) (λ w c h. r x xs w t c h))

pub next_number : {R : Type 0} {p : Phase} {d : Seen} {ts : List Token} {g : Seen} {k : Token → ℕ → Step} → is_item p ≡ false →
    ((x : Token) → step p d x ≡ number x (k x)) → After (go p d) ts g →
    ((x : Token) (xs : List Token) (n : ℕ) → ts ≡ x ∷ xs → x.kind ≡ Number n → n < 2 ^ 32 → After (k x n) xs g → R) → R
next_number {g = g} {k} i e a r =
    next i a (λ x xs t b. took_number x (k x) (subst (λ (m : Step). After m xs g) (e x) b) (λ n c l h. r x xs n t c l h))

-- a token is put in front of a spelling
pub put : {x : Token} {xs ts : List Token} {k : Kind} {js : List Piece} → ts ≡ x ∷ xs → x.kind ≡ k → Fits js xs → Fits (piece k ∷ js) ts
put {k = k} {js} e c f = subst (λ (us : List Token). Fits (piece k ∷ js) us) (sym e) (one c tt f)

pub put_at : {x : Token} {xs ts : List Token} {k : Kind} {js : List Piece} → ts ≡ x ∷ xs → x.kind ≡ k → Fits js xs → Fits (piece_at x.at k ∷ js) ts
put_at {x} {k = k} {js} e c f = subst (λ (us : List Token). Fits (piece_at x.at k ∷ js) us) (sym e) (one c refl f)

pub less : {x : Token} {xs ts : List Token} → ts ≡ x ∷ xs → length xs < length ts
less {x} {xs} {ts} e = let l : length ts ≡ suc (length xs) = ap length e in omega arith

-- what holds of tokens if it holds of fewer
module _ (P : List Token → Type 0) (h : (ts : List Token) → ((us : List Token) → length us < length ts → P us) → P ts) where
  by_fuel : (n : ℕ) (ts : List Token) → length ts < n → P ts
  by_fuel zero ts l = absurd (omega arith)
  by_fuel (suc n) ts l = h ts (λ us m. by_fuel n us (omega arith))

  pub by_length : (ts : List Token) → P ts
  by_length ts = by_fuel (suc (length ts)) ts (omega arith)

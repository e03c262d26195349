-- What holds behind every step that goes on.
use Rattle.std.proofs.Common.{◌≡◌, ℕ, ◌^◌, ◌<◌, ◌≤◌, Bool, true, false, cond, ltb, List, length, Some, None, Option, refl}
use Rattle.std.proofs.lemmas.Bool.{ltb-true, ltb-false}
use Rattle.token.specs.declared.token.Sign.{Sign}
use Rattle.token.specs.Tokens.{Token}
use Rattle.source.specs.declared.fault.Fault.{Fault}
use Rattle.source.specs.State.{Phase, Seen}
use Rattle.source.specs.Steps.{Step, go, stop, or_unawaited, word_of, number_of, is_sign, says, sign, keyword, word, number, known, or_range, fresh, or_count, room}

-- a step stops, or goes on to where P holds
pub data After (P : Phase → Seen → Type 0) : Step → Type 0 where
  goes : {q : Phase} {e : Seen} → P q e → After P (go q e)
  stops : {f : Fault} → After P (stop f)

pub if_kept : {P : Phase → Seen → Type 0} (b : Bool) (s t : Step) → (b ≡ true → After P s) → (b ≡ false → After P t) → After P (cond b s t)
if_kept true s t f g = f refl
if_kept false s t f g = g refl

pub awaited_kept : {P : Phase → Seen → Type 0} {X : Type 0} (at : ℕ) (o : Option X) (k : X → Step) → ((y : X) → o ≡ Some y → After P (k y)) → After P (or_unawaited at o k)
awaited_kept at (Some y) k f = f y refl
awaited_kept at None k f = stops

pub known_kept : {P : Phase → Seen → Type 0} {X : Type 0} (at : ℕ) (o : Option X) (k : X → Step) → ((y : X) → o ≡ Some y → After P (k y)) → After P (known at o k)
known_kept at (Some y) k f = f y refl
known_kept at None k f = stops

pub sign_kept : {P : Phase → Seen → Type 0} (s : Sign) (x : Token) (k : Step) → After P k → After P (sign s x k)
sign_kept s x k a = if_kept (is_sign s x.kind) k _ (λ e. a) (λ e. stops)

pub keyword_kept : {P : Phase → Seen → Type 0} (v : List ℕ) (x : Token) (k : Step) → After P k → After P (keyword v x k)
keyword_kept v x k a = if_kept (says v x.kind) k _ (λ e. a) (λ e. stops)

pub word_kept : {P : Phase → Seen → Type 0} (x : Token) (k : List ℕ → Step) → ((w : List ℕ) → After P (k w)) → After P (word x k)
word_kept x k f = awaited_kept x.at (word_of x.kind) k (λ w e. f w)

pub name_kept : {P : Phase → Seen → Type 0} (x : Token) (k : List ℕ → Step) → ((w : List ℕ) → word_of x.kind ≡ Some w → After P (k w)) → After P (word x k)
name_kept x k f = awaited_kept x.at (word_of x.kind) k f

pub number_kept : {P : Phase → Seen → Type 0} (x : Token) (k : ℕ → Step) → ((n : ℕ) → n < 2 ^ 32 → After P (k n)) → After P (number x k)
number_kept x k f = awaited_kept x.at (number_of x.kind) _ (λ n e. if_kept (ltb n (2 ^ 32)) (k n) _ (λ t. f n (ltb-true n (2 ^ 32) t)) (λ t. stops))

short_kept : {P : Phase → Seen → Type 0} (at : ℕ) (w : List ℕ) (k : List ℕ → Step) (b : Bool) → ltb 24 (length w) ≡ b → (length w ≤ 24 → After P (k w)) → After P (or_range at (cond b None (Some w)) k)
short_kept at w k true e f = stops
short_kept at w k false e f = f (ltb-false 24 (length w) e)

pub fresh_kept : {P : Phase → Seen → Type 0} (taken : Bool) (at : ℕ) (w : List ℕ) (k : List ℕ → Step) → (taken ≡ false → length w ≤ 24 → After P (k w)) → After P (fresh taken at w k)
fresh_kept true at w k f = stops
fresh_kept false at w k f = short_kept at w k (ltb 24 (length w)) refl (f refl)

below_kept : {P : Phase → Seen → Type 0} (at n limit : ℕ) (k : ℕ → Step) (b : Bool) → ltb n limit ≡ b → (n < limit → After P (k n)) → After P (or_count at (cond b (Some n) None) k)
below_kept at n limit k true e f = f (ltb-true n limit e)
below_kept at n limit k false e f = stops

pub room_kept : {P : Phase → Seen → Type 0} (at n limit : ℕ) (k : ℕ → Step) → (n < limit → After P (k n)) → After P (room at n limit k)
room_kept at n limit k f = below_kept at n limit k (ltb n limit) refl f

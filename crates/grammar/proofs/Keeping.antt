-- The offsets in choices are those of tokens that were read.
use Rattle.std.proofs.Common.{◌≡◌, ℕ, Bool, true, false, cond, List, [], ◌∷◌, ◌++◌, is_some, Some, None, Option, sym, refl, ap, ◌∙◌, subst, arith}
use Rattle.std.proofs.lemmas.List.{append_assoc}
use Rattle.token.specs.Tokens.{Token}
use Rattle.source.specs.Names.{Entry, find}
use Rattle.source.specs.State.{Next, Ends, Header, Later, Never, Choice, Seen}
use Rattle.source.specs.Reading.{missing, or_else, unnamed}
use Rattle.grammar.specs.Decided.{Among}
use Rattle.grammar.proofs.Standing.{Own, Added, none_added, one_added}

same_some : (x y : ℕ) → Some x ≡ Some y → x ≡ y
same_some x y e = cc

pub none_some : {A : Type 0} (y : ℕ) → None ≡ Some y → A
none_some y e = let z : ◌≡◌ {A = ℕ} 0 1 = cc in absurd (omega arith)

-- the offset in a choice is that of one of some tokens
abbrev pub Kept : List Token → Next → Type 0
Kept ts Ends = Unit {0}
Kept ts (Header k) = Unit {0}
Kept ts (Later w at) = Among ts at
Kept ts (Never at) = Among ts at

abbrev pub AllKept : List Token → List Choice → Type 0
AllKept ts [] = Unit {0}
AllKept ts (c ∷ cs) = Kept ts c.next × AllKept ts cs

among_more : (ts : List Token) (x : Token) (at : ℕ) → Among ts at → Among (ts ++ x ∷ []) at
among_more ts x at m =
    record {
      front = m.front;
      token = m.token;
      back = m.back ++ x ∷ [];
      split = ap (λ (us : List Token). us ++ x ∷ []) m.split ∙ append_assoc m.front (m.token ∷ m.back) (x ∷ []);
      is = m.is;
    }

among_last : (ts : List Token) (x : Token) (at : ℕ) → x.at ≡ at → Among (ts ++ x ∷ []) at
among_last ts x at e = record { front = ts; token = x; back = []; split = refl; is = e }

kept_more : (ts : List Token) (x : Token) (n : Next) → Kept ts n → Kept (ts ++ x ∷ []) n
kept_more ts x Ends k = tt
kept_more ts x (Header h) k = tt
kept_more ts x (Later w at) k = among_more ts x at k
kept_more ts x (Never at) k = among_more ts x at k

own_kept : (ts : List Token) (x : Token) (n : Next) → Own x n → Kept (ts ++ x ∷ []) n
own_kept ts x Ends k = tt
own_kept ts x (Header h) k = tt
own_kept ts x (Later w at) k = among_last ts x at k
own_kept ts x (Never at) k = among_last ts x at k

all_more : (ts : List Token) (x : Token) (cs : List Choice) → AllKept ts cs → AllKept (ts ++ x ∷ []) cs
all_more ts x [] k = tt
all_more ts x (c ∷ cs) k = (kept_more ts x c.next k.0, all_more ts x cs k.1)

all_push : (ts : List Token) (cs : List Choice) (c : Choice) → AllKept ts cs → Kept ts c.next → AllKept ts (cs ++ c ∷ [])
all_push ts [] c k m = (m, tt)
all_push ts (b ∷ cs) c k m = (k.0, all_push ts cs c k.1 m)

pub all_added : (ts : List Token) (d : Seen) (x : Token) (e : Seen) → Added d x e → AllKept ts d.routes.choices → AllKept (ts ++ x ∷ []) e.routes.choices
all_added ts d x e (none_added i) k = subst (AllKept (ts ++ x ∷ [])) (sym i) (all_more ts x d.routes.choices k)
all_added ts d x e (one_added c i o) k =
    subst (AllKept (ts ++ x ∷ [])) (sym i) (all_push (ts ++ x ∷ []) d.routes.choices c (all_more ts x d.routes.choices k) (own_kept ts x c.next o))

-- a choice with no header stands at one of the tokens
later_among : (ts : List Token) (i at : ℕ) (b : Bool) → cond b None (Some i) ≡ Some at → Among ts i → Among ts at
later_among ts i at true e k = none_some at e
later_among ts i at false e k = subst (Among ts) (same_some i at e) k

missing_among : (ts : List Token) (hs : List Entry) (n : Next) (at : ℕ) → missing hs n ≡ Some at → Kept ts n → Among ts at
missing_among ts hs Ends at e k = none_some at e
missing_among ts hs (Header h) at e k = none_some at e
missing_among ts hs (Later w i) at e k = later_among ts i at (is_some (find hs w)) e k
missing_among ts hs (Never i) at e k = subst (Among ts) (same_some i at e) k

either_among : (ts : List Token) (hs : List Entry) (c : Choice) (cs : List Choice) (at : ℕ) (o : Option ℕ) → missing hs c.next ≡ o → or_else o (unnamed hs cs) ≡ Some at →
    Kept ts c.next → (unnamed hs cs ≡ Some at → Among ts at) → Among ts at
either_among ts hs c cs at (Some i) m e k h = missing_among ts hs c.next at (m ∙ e) k
either_among ts hs c cs at None m e k h = h e

pub unnamed_among : (ts : List Token) (hs : List Entry) (cs : List Choice) (at : ℕ) → unnamed hs cs ≡ Some at → AllKept ts cs → Among ts at
unfolding unnamed
unnamed_among ts hs [] at e k = none_some at e
unnamed_among ts hs (c ∷ cs) at e k = either_among ts hs c cs at (missing hs c.next) refl e k.0 (λ m. unnamed_among ts hs cs at m k.1)

-- A fault is decided by the tokens up to the one behind it.
use Rattle.std.proofs.Common.{◌≡◌, ℕ, Bool, true, false, cond, List, [], ◌∷◌, ◌++◌, Some, None, Option, sym, refl, ap, ◌∙◌, subst, arith}
use Rattle.std.proofs.lemmas.List.{append_assoc}
use Rattle.token.specs.Tokens.{Kind, Word, Number, Huge, Mark, Other, End, Token, tokens}
use Rattle.source.specs.declared.fault.Fault.{Fault}
use Rattle.source.specs.State.{Phase, Item, Seen, nothing}
use Rattle.source.specs.Steps.{Step, go, stop, is_end}
use Rattle.source.specs.Reading.{step, taken, refused, onward, run}
use Rattle.grammar.specs.Decided.{last_behind, last_of, Stands, at_the_last, at_the_one_before, at_a_choice, Decided, FaultsAreDecided, RefusedAlike}
use Rattle.grammar.proofs.Keeping.{none_some, AllKept, all_added, unnamed_among}
use Rattle.grammar.proofs.Standing.{Holds, Place, here, before, missed, Added, At, goes, stops, at_step}

never : {A : Type 0} (d : Seen) (f : Fault) → taken d ≡ refused f → A
never d f e = let z : ◌≡◌ {A = ℕ} 0 1 = cc in absurd (omega arith)

same : (g f : Fault) → refused g ≡ refused f → g ≡ f
same g f e = cc

is_end_lem : (k : Kind) → is_end k ≡ true → k ≡ End
is_end_lem (Word w) e = let z : ◌≡◌ {A = ℕ} 0 1 = cc in absurd (omega arith)
is_end_lem (Number n) e = let z : ◌≡◌ {A = ℕ} 0 1 = cc in absurd (omega arith)
is_end_lem Huge e = let z : ◌≡◌ {A = ℕ} 0 1 = cc in absurd (omega arith)
is_end_lem (Mark s) e = let z : ◌≡◌ {A = ℕ} 0 1 = cc in absurd (omega arith)
is_end_lem Other e = let z : ◌≡◌ {A = ℕ} 0 1 = cc in absurd (omega arith)
is_end_lem End e = refl

-- the offset of a token, if there is one
abbrev offset_of : Option Token → Option ℕ
offset_of (Some y) = Some y.at
offset_of None = None

last_snoc : (o : Option Token) (ts : List Token) (x : Token) → last_behind o (ts ++ (x ∷ [])) ≡ Some x
unfolding last_behind
last_snoc o [] x = refl
last_snoc o (t ∷ ts) x = last_snoc (Some t) ts x

-- some tokens are read whole, and leave a phase and what was seen
record Read (front : List Token) (p : Phase) (d : Seen) : Type 0 where
  whole : (others : List Token) → run Item nothing (front ++ others) ≡ run p d others
  holds : Holds p (offset_of (last_of front))
  kept : AllKept front d.routes.choices

-- a phase that is known to be `Item`
at_item : (front : List Token) (p : Phase) (d : Seen) → Read front p d → p ≡ Item → (others : List Token) → run Item nothing (front ++ others) ≡ run Item d others
at_item front p d r e others = r.whole others ∙ ap (λ (q : Phase). run q d others) e

stands : (front : List Token) (p : Phase) (d : Seen) (x : Token) (f : Fault) (o : Option Token) → last_of front ≡ o → Read front p d → Place p d (offset_of o) x f → Stands front x f
stands front p d x f o l r (here e) = at_the_last e
stands front p d x f (Some y) l r (before i e h) = at_the_one_before y l (h ∙ sym e)
stands front p d x f None l r (before i e h) = none_some _ e
stands front p d x f o l r (missed m) =
    at_a_choice (record { ends = is_end_lem _ m.ends; seen = d; whole = at_item front p d r m.phase; at = m.at; choice = m.choice; fault = m.fault; name = unnamed_among front _ _ m.at m.choice r.kept })

-- one more token is read whole
more : (front : List Token) (p : Phase) (d : Seen) (x : Token) (q : Phase) (e : Seen) → Read front p d → is_end x.kind ≡ false → step p d x ≡ go q e →
    Holds q (Some x.at) → Added d x e → Read (front ++ (x ∷ [])) q e
unfolding run
more front p d x q e r b s h k =
    record {
      whole = λ us. ap (run Item nothing) (append_assoc front (x ∷ []) us) ∙ (r.whole (x ∷ us)
          ∙ (ap (onward (is_end x.kind) (λ q e. run q e us)) s ∙ ap (λ (t : Bool). cond t (taken e) (run q e us)) b));
      holds = subst (λ (o : Option Token). Holds q (offset_of o)) (sym (last_snoc None front x)) h;
      kept = all_added front d x e k r.kept;
    }

-- what the first token does is known: reading goes on behind it, or stops there
by_step : (front : List Token) (p : Phase) (d : Seen) (x : Token) (xs : List Token) (f : Fault) (ends : Bool) (s : Step) → Read front p d →
    is_end x.kind ≡ ends → step p d x ≡ s → At p d (offset_of (last_of front)) x s →
    ((q : Phase) (e : Seen) → Read (front ++ (x ∷ [])) q e → run q e xs ≡ refused f → Decided ((front ++ (x ∷ [])) ++ xs) f) →
    onward ends (λ q e. run q e xs) s ≡ refused f → Decided (front ++ (x ∷ xs)) f
unfolding run
by_step front p d x xs f true (go q e) r b s a on h = never e f h
by_step front p d x xs f false (go q e) r b s (goes k m) on h =
    subst (λ (ts : List Token). Decided ts f) (append_assoc front (x ∷ []) xs) (on q e (more front p d x q e r b s k m) h)
by_step front p d x xs f ends (stop g) r b s (stops k) on h =
    record {
      before = front;
      last = x;
      after = xs;
      split = refl;
      stands = stands front p d x f (last_of front) refl r (subst (Place p d (offset_of (last_of front)) x) (same g f h) k);
      decides = λ us. r.whole (x ∷ us) ∙ (ap (onward (is_end x.kind) (λ q e. run q e us)) s ∙ ap refused (same g f h));
    }

decided : (front : List Token) (p : Phase) (d : Seen) (ts : List Token) (f : Fault) → Read front p d → run p d ts ≡ refused f → Decided (front ++ ts) f
unfolding run
decided front p d [] f r h = never d f h
decided front p d (x ∷ xs) f r h =
    by_step front p d x xs f (is_end x.kind) (step p d x) r refl refl (at_step p d (offset_of (last_of front)) x r.holds)
    (λ q e k. decided (front ++ (x ∷ [])) q e xs f k) h

pub faults_are_decided : FaultsAreDecided
faults_are_decided source f h = decided [] Item nothing (tokens source) f (record { whole = λ us. refl; holds = tt; kept = tt }) h

pub refused_alike : RefusedAlike
refused_alike source f h =
    let r : Decided (tokens source) f = faults_are_decided source f h in
    record {
      before = r.before;
      last = r.last;
      after = r.after;
      itself = r.split;
      stands = r.stands;
      alike = λ other others e. ap (run Item nothing) e ∙ r.decides others;
    }

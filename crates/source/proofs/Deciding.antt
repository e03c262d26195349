-- A fault is decided by the tokens up to the one at which reading stopped.
use Rattle.std.proofs.Common.{◌≡◌, ℕ, Bool, true, false, cond, List, [], ◌∷◌, ◌++◌, refl, ap, ◌∙◌, arith}
use Rattle.token.specs.Tokens.{Token, tokens}
use Rattle.source.specs.declared.fault.Fault.{Fault}
use Rattle.source.specs.State.{Phase, Item, Seen, nothing}
use Rattle.source.specs.Steps.{Step, go, stop, is_end}
use Rattle.source.specs.Reading.{step, taken, refused, onward, run}
use Rattle.source.specs.Laws.{Decided, FaultsAreDecided}

never : {A : Type 0} (d : Seen) (f : Fault) → taken d ≡ refused f → A
never d f e = let z : ◌≡◌ {A = ℕ} 0 1 = cc in absurd (omega arith)

same : (g f : Fault) → refused g ≡ refused f → g ≡ f
same g f e = cc

-- what the first token does is known: reading goes on behind it, or stops there
by_step : (p : Phase) (d : Seen) (x : Token) (xs : List Token) (f : Fault) (ends : Bool) (s : Step) → is_end x.kind ≡ ends → step p d x ≡ s →
    ((q : Phase) (e : Seen) → run q e xs ≡ refused f → Decided q e xs f) →
    onward ends (λ q e. run q e xs) s ≡ refused f → Decided p d (x ∷ xs) f
unfolding run
by_step p d x xs f true (go q e) b s more h = never e f h
by_step p d x xs f false (go q e) b s more h =
    let r : Decided q e xs f = more q e h in
    record {
      before = x ∷ r.before;
      last = r.last;
      after = r.after;
      split = ap (λ (ys : List Token). x ∷ ys) r.split;
      decides = λ us.
          ap (onward (is_end x.kind) (λ q e. run q e (r.before ++ (r.last ∷ us)))) s
          ∙ (ap (λ (t : Bool). cond t (taken e) (run q e (r.before ++ (r.last ∷ us)))) b ∙ r.decides us);
    }
by_step p d x xs f ends (stop g) b s more h =
    record {
      before = [];
      last = x;
      after = xs;
      split = refl;
      decides = λ us. ap (onward (is_end x.kind) (λ q e. run q e us)) s ∙ ap refused (same g f h);
    }

decided : (p : Phase) (d : Seen) (ts : List Token) (f : Fault) → run p d ts ≡ refused f → Decided p d ts f
unfolding run
decided p d [] f h = never d f h
decided p d (x ∷ xs) f h = by_step p d x xs f (is_end x.kind) (step p d x) refl refl (λ q e. decided q e xs f) h

pub faults_are_decided : FaultsAreDecided
faults_are_decided source f h = decided Item nothing (tokens source) f h

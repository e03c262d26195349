-- The versions behind an update that is taken.
use Rattle.std.proofs.Common.{◌≡◌, Bool, true, false, cond, not, sym, ap, ◌∙◌}
use mathlib.Core.Bool.{beq}

-- one of the two is new, and the other is what was the newest
pub renewed_is : {V : Type 0} (new old : Bool → V) (was is : Bool) (x : V) → is ≡ not was → new is ≡ x → new was ≡ old was → (v : Bool) → new v ≡ cond (beq v (not was)) x (old v)
renewed_is new old true is x e p q true = q
renewed_is new old true is x e p q false = ap new (sym e) ∙ p
renewed_is new old false is x e p q true = ap new (sym e) ∙ p
renewed_is new old false is x e p q false = q

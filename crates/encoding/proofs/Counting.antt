-- An update with too many entries of a table.
use Rattle.std.proofs.Common.{◌≡◌, ℕ, zero, suc, ◌<◌, false, leb, List, [], ◌∷◌, length, get_or, vec_items, subst, arith}
use Rattle.std.proofs.lemmas.List.{length-map}
use Rattle.std.proofs.lemmas.Bool.{and_left, and_right}
use Rattle.table.specs.declared.entry.Edit.{Edit}
use Rattle.table.specs.Stands.{entry_of, edits_of}
use Rattle.encoding.specs.Encoded.{each_counted, counted}

not_each : (gs : List Edit) (k : ℕ) (d : Edit) → k < length gs → leb (length (vec_items (get_or gs k d).entries)) 65535 ≡ false → each_counted (edits_of gs) ≡ false
unfolding each_counted
not_each [] k d h e = absurd (omega arith)
not_each (g ∷ gs) zero d h e = and_left _ (each_counted (edits_of gs)) (rw (length-map (vec_items g.entries) entry_of) e)
not_each (g ∷ gs) (suc k) d h e = and_right _ (each_counted (edits_of gs)) (not_each gs k d (omega arith) e)

pub not_counted : (gs : List Edit) (k : ℕ) (g : Edit) → k < length gs → g ≡ get_or gs k g → leb (length (vec_items g.entries)) 65535 ≡ false → counted (edits_of gs) ≡ false
not_counted gs k g h q e = and_right _ (each_counted (edits_of gs)) (not_each gs k g h (subst (λ (x : Edit). leb (length (vec_items x.entries)) 65535 ≡ false) q e))

-- A table's declaration, by its number.
use Rattle.std.proofs.Common.{◌≡◌, ℕ, ◌<◌, ◌≤◌, Bool, ◌||◌, ◌==◌, List, [], ◌∷◌, map, length, get_or, sym, refl, ap, ◌∙◌, subst}
use Rattle.std.proofs.lemmas.List.{get_or-map, get_or_past, length-map}
use Rattle.std.specs.List.{list_any}
use Rattle.program.specs.Stands.{table_of, undeclared}
use Rattle.program.specs.declared.declarations.TableDeclaration.{TableDeclaration}
use Rattle.table.specs.Stands.{edits_of}
use Rattle.table.specs.declared.entry.Edit.{Edit}
use Rattle.update.specs.Decoding.{among, named}

pub declared_is : (slice ts : List TableDeclaration) (i : ℕ) (t : TableDeclaration) → slice ≡ ts → i < length slice → t ≡ get_or slice i t → table_of t ≡ get_or (map table_of ts) i undeclared
declared_is slice ts i t e h is =
    ap table_of is ∙ sym (get_or-map table_of slice i t undeclared h) ∙ ap (λ (l : List TableDeclaration). get_or (map table_of l) i undeclared) e

pub undeclared_is : (slice ts : List TableDeclaration) (i : ℕ) → slice ≡ ts → length slice ≤ i → undeclared ≡ get_or (map table_of ts) i undeclared
undeclared_is slice ts i e h =
    sym (get_or_past (map table_of slice) i undeclared (subst (λ (n : ℕ). n ≤ i) (sym (length-map slice table_of)) h)) ∙ ap (λ (l : List TableDeclaration). get_or (map table_of l) i undeclared) e

-- a search among edits for a table
pub named_any : (n : ℕ) (gs : List Edit) → list_any (λ (g : Edit). g.table.at == n) gs ≡ among n (named (edits_of gs))
named_any n [] = refl
named_any n (g ∷ gs) = ap (λ (b : Bool). g.table.at == n || b) (named_any n gs)

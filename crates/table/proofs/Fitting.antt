-- Which entry fits, and what it has done, as the library's words say it.
use Rattle.std.proofs.Common.{◌≡◌, ℕ, zero, suc, ◌≤◌, ◌+◌, ◌<◌, Bool, cond, not, ◌&&◌, ltb, List, [], ◌∷◌, length, get_or, drop, slice_index, vec_items, Some, None, sym, refl, ap, ap₂, ◌∙◌, ⊎_elim, arith}
use Rattle.std.proofs.lemmas.Bool.{lt-ltb, le-ltb, cases_lt}
use Rattle.std.proofs.lemmas.List.Recursion.{is_position_or_len}
use Rattle.std.proofs.lemmas.List.Sums.{prefix_len-le-length}
use Rattle.std.proofs.lemmas.List.{drop_more, drop_all, get_or_past, length-map}
use Rattle.std.specs.List.{zip, list_all, position, position_or_len}
use Rattle.std.specs.Option.{unwrap_or}
use Rattle.few.specs.Few.{items_of}
use Rattle.model.specs.Packet.{Packet}
use Rattle.model.specs.Declarations.{Declarations}
use Rattle.model.specs.Action.{act, acts}
use Rattle.model.specs.Table as table
use Rattle.model.specs.Table.{fits, first_fit, chosen, chosen_by, agrees, no_entry}
use Rattle.program.specs.Stands.{over, numbers_of, action_of, kind_of, table_of}
use Rattle.program.specs.Stands.{FieldNo}
use Rattle.program.specs.declared.action.Action.{Action}
use Rattle.program.specs.declared.declarations.MatchKind.{MatchKind}
use Rattle.program.specs.declared.declarations.MatchKind.TheVariants.{Ternary}
use Rattle.program.specs.declared.declarations.TableDeclaration.{TableDeclaration}
use Rattle.program.specs.declared.field.Fields.{Fields}
use Rattle.table.specs.Stands.{pattern_of, patterns_of, entry_of, entries_of, actions_of}
use Rattle.table.specs.declared.entry.Pattern.{Pattern}
use Rattle.table.specs.declared.entry.Entry.{Entry}

-- a pattern for each field, in pairs
pub fits_pairs : (fs : List FieldNo) (ws : List Pattern) (p : Packet) →
    fits (numbers_of fs) (patterns_of ws) p ≡ list_all (λ (x : FieldNo × Pattern). agrees (pattern_of x.1) (p x.0.at)) (zip fs ws)
unfolding fits
fits_pairs [] ws p = refl
fits_pairs (f ∷ fs) [] p = refl
fits_pairs (f ∷ fs) (w ∷ ws) p = ap (λ (b : Bool). agrees (pattern_of w) (p f.at) && b) (fits_pairs fs ws p)

-- one action more
pub acts_more : (d : Declarations) (xs : List Action) (k : ℕ) (a : Action) (p : Packet) → k < length xs → a ≡ get_or xs k a →
    acts d (actions_of (drop k xs)) p ≡ acts d (actions_of (drop (k + 1) xs)) (act d (action_of a) p)
unfolding acts
acts_more d xs k a p h is = rw (drop_more xs k a h, ← is) refl

pub acts_end : (d : Declarations) (xs : List Action) (k : ℕ) (p : Packet) → length xs ≤ k → acts d (actions_of (drop k xs)) p ≡ p
unfolding acts
acts_end d xs k p h = rw (drop_all k xs h) refl

-- a table that looks at nothing takes its first entry
pub first_of_none : (es : List table.Entry) (p : Packet) → first_fit [] es p ≡ zero
unfolding first_fit fits
first_of_none [] p = refl
first_of_none (e ∷ es) p = refl

-- whether an entry's patterns agree with the fields that are looked at
abbrev pub agree : List FieldNo → List ℕ → Entry → Bool
agree fs x e = list_all (λ (p : FieldNo × Pattern). agrees (pattern_of p.1) (slice_index x p.0.at)) (zip fs (items_of e.patterns))

-- fields are numbered below 64, so that it doesn't matter what stands behind them
pub low : (x : Fields) (f : FieldNo) (base : Packet) → over x base f.at ≡ slice_index x.of f.at
low x f base = rw (lt-ltb f.at 64 f.ok) refl

same_pairs : (fs : List FieldNo) (ws : List Pattern) (x : Fields) (base : Packet) →
    list_all (λ (p : FieldNo × Pattern). agrees (pattern_of p.1) (over x base p.0.at)) (zip fs ws) ≡ list_all (λ (p : FieldNo × Pattern). agrees (pattern_of p.1) (slice_index x.of p.0.at)) (zip fs ws)
same_pairs [] ws x base = refl
same_pairs (f ∷ fs) [] x base = refl
same_pairs (f ∷ fs) (w ∷ ws) x base =
    ap₂ (λ (n : ℕ) (b : Bool). agrees (pattern_of w) n && b) (low x f base) (same_pairs fs ws x base)

pub fits_agree : (fs : List FieldNo) (e : Entry) (x : Fields) (base : Packet) → fits (numbers_of fs) (entry_of e).patterns (over x base) ≡ agree fs x.of e
fits_agree fs e x base = fits_pairs fs (items_of e.patterns) (over x base) ∙ same_pairs fs (items_of e.patterns) x base

-- the first entry that fits, or the count of entries
first_is_len : (fs : List FieldNo) (es : List Entry) (x : Fields) (base : Packet) → first_fit (numbers_of fs) (entries_of es) (over x base) ≡ position_or_len (agree fs x.of) es
unfolding first_fit
first_is_len fs es x base =
    let one_more : (n : ℕ) → suc n ≡ 1 + n = λ n. omega arith in
    is_position_or_len (λ (l : List Entry). first_fit (numbers_of fs) (entries_of l) (over x base)) (agree fs x.of) refl
    (λ e l. ap₂ (λ (b : Bool) (n : ℕ). cond b zero n) (fits_agree fs e x base) (one_more (first_fit (numbers_of fs) (entries_of l) (over x base)))) es

or_len : (n m : ℕ) → n ≤ m → unwrap_or (cond (ltb n m) (Some n) None) m ≡ n
or_len n m h = ⊎_elim
    (λ (l : n < m). ap (λ (b : Bool). unwrap_or (cond b (Some n) None) m) (lt-ltb n m l))
    (λ (g : m ≤ n). ap (λ (b : Bool). unwrap_or (cond b (Some n) None) m) (le-ltb n m g) ∙ omega arith)
    (cases_lt n m)

pub first_is : (fs : List FieldNo) (es : List Entry) (x : Fields) (base : Packet) →
    unwrap_or (position (agree fs x.of) es) (length es) ≡ first_fit (numbers_of fs) (entries_of es) (over x base)
first_is fs es x base = or_len (position_or_len (agree fs x.of) es) (length es) (prefix_len-le-length (λ (e : Entry). not (agree fs x.of e)) es) ∙ sym (first_is_len fs es x base)

-- the entry that a table takes
chosen_with : (k : MatchKind) (fs : List FieldNo) (es : List Entry) (x : Fields) (base : Packet) →
    unwrap_or (position (agree fs x.of) es) (length es) ≡ chosen_by (kind_of k) (numbers_of fs) (entries_of es) (over x base)
chosen_with Ternary fs es x base = first_is fs es x base

pub chosen_is : (t : TableDeclaration) (es : List Entry) (x : Fields) (base : Packet) →
    unwrap_or (position (agree (vec_items t.looks) x.of) es) (length es) ≡ chosen (table_of t) (entries_of es) (over x base)
chosen_is t es x base = chosen_with t.kind (vec_items t.looks) es x base

-- behind the last entry there is nothing to do
pub past_all : (d : Declarations) (es : List Entry) (at : ℕ) (p : Packet) → length es ≤ at → p ≡ acts d (get_or (entries_of es) at no_entry).actions p
unfolding acts
past_all d es at p h = ap (λ (e : table.Entry). acts d e.actions p) (sym (get_or_past (entries_of es) at no_entry (rw length-map h)))

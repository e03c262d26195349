-- What is written is read.
use Rattle.std.proofs.Common.{◌≡◌, ℕ, ◌+◌, ◌*◌, ◌/◌, ◌%◌, ◌^◌, ◌<◌, ◌≤◌, false, cond, ltb, leb, List, [], ◌∷◌, ◌++◌, length, sym, ap, ◌∙◌, arith}
use Rattle.std.specs.List.{AllByRecursion}
use Rattle.std.proofs.lemmas.List.{append_assoc, append-nil}
use Rattle.std.proofs.lemmas.Bool.{cond-true, cond-false, lt-ltb, le-leb}
use Rattle.model.specs.Declarations.{Declarations, TableDeclaration}
use Rattle.model.specs.Action.{Operand, Field, Number, Action, Set, Add}
use Rattle.model.specs.Table.{Pattern, Entry}
use Rattle.model.specs.Version.{Edit, Replace}
use Rattle.update.specs.Decoded.{TooWide, TooManyEntries, Decoded, Refused, Then}
use Rattle.update.specs.Numbers.{half_at, word_at}
use Rattle.update.specs.Decoding.{among, is_there, named, field_at, operand_at, settable_at, action_at, actions_at, fitting_at, pattern_at, patterns_at, count_at, entry_at, entries_at, table_at, size_at, edit_at, edits_at, wholly}
use Rattle.encoding.specs.Encoded.{half, word, operand_bytes, action_bytes, actions_bytes, pattern_bytes, patterns_bytes, entry_bytes, entries_bytes, edit_bytes, edits_bytes}
use Rattle.encoding.specs.WellFormed.{Fits, PatternFits, PatternsFit, FieldThere, Settable, OperandFits, ActionFits, EntryFits, Given, EditFits, Apart}
use Rattle.encoding.specs.RoundTrip.{RoundTrip}

-- a reader reads x, whatever is done with it, and leaves the rest
record Reads {A : Type 0} (s : Then A → Decoded) (x : A) (rest : List ℕ) : Type 0 where
  behind : ℕ
  is : (k : Then A) → s k ≡ k x behind rest

halves : (n : ℕ) → n / 256 * 256 + n % 256 ≡ n
halves n = omega arith

words : (n : ℕ) → ((n / 65536 / 256 * 256 + n / 65536 % 256) * 256 + n % 65536 / 256) * 256 + n % 65536 % 256 ≡ n
words n = omega arith

half_read : (n at : ℕ) (rest : List ℕ) → Reads (half_at at (half n ++ rest)) n rest
half_read n at rest = record { behind = at + 2; is = λ k. ap (λ (m : ℕ). k m (at + 2) rest) (halves n) }

word_read : (n at : ℕ) (rest : List ℕ) → Reads (word_at at (word n ++ rest)) n rest
word_read n at rest = record { behind = at + 4; is = λ k. ap (λ (m : ℕ). k m (at + 4) rest) (words n) }

field_read : (d : Declarations) (f at : ℕ) (rest : List ℕ) → FieldThere d f → Reads (field_at d at (f ∷ rest)) f rest
field_read d f at rest h = record { behind = at + 1; is = λ k. cond-true (is_there d f) _ _ h.there }

settable_read : (t : TableDeclaration) (f at : ℕ) (rest : List ℕ) → Settable t f → Reads (settable_at t at (f ∷ rest)) f rest
settable_read t f at rest h = record { behind = at + 1; is = λ k. cond-true (among f t.sets) _ _ h.may_set }

operand_read : (d : Declarations) (o : Operand) (at : ℕ) (rest : List ℕ) → OperandFits d o → Reads (operand_at d at (operand_bytes o ++ rest)) o rest
operand_read d (Number n) at rest h = let r = word_read n (at + 1) rest in record { behind = r.behind; is = λ k. r.is (λ m. k (Number m)) }
operand_read d (Field f) at rest h = let r = field_read d f (at + 1) rest h in record { behind = r.behind; is = λ k. r.is (λ m. k (Field m)) }

action_read : (d : Declarations) (t : TableDeclaration) (a : Action) (at : ℕ) (rest : List ℕ) → ActionFits d t a → Reads (action_at d t at (action_bytes a ++ rest)) a rest
action_read d t (Set f o) at rest h =
    let s = settable_read t f (at + 1) (operand_bytes o ++ rest) h.0 in
    let r = operand_read d o s.behind rest h.1 in
    record { behind = r.behind; is = λ k. s.is (λ g behind left. operand_at d behind left (λ p. k (Set g p))) ∙ r.is (λ p. k (Set f p)) }
action_read d t (Add f o) at rest h =
    let s = settable_read t f (at + 1) (operand_bytes o ++ rest) h.0 in
    let r = operand_read d o s.behind rest h.1 in
    record { behind = r.behind; is = λ k. s.is (λ g behind left. operand_at d behind left (λ p. k (Add g p))) ∙ r.is (λ p. k (Add f p)) }

actions_read : (d : Declarations) (t : TableDeclaration) (xs done : List Action) (at : ℕ) (rest : List ℕ) → AllByRecursion (ActionFits d t) xs →
    Reads (actions_at d t (length xs) done at (actions_bytes xs ++ rest)) (done ++ xs) rest
unfolding actions_at
actions_read d t [] done at rest h = record { behind = at; is = λ k. ap (λ (ys : List Action). k ys at rest) (sym (append-nil done)) }
actions_read d t (a ∷ xs) done at rest h =
    let r = action_read d t a at (actions_bytes xs ++ rest) h.0 in
    let m = actions_read d t xs (done ++ (a ∷ [])) r.behind rest h.1 in
    record {
      behind = m.behind;
      is = λ k. ap (λ (bs : List ℕ). actions_at d t (length (a ∷ xs)) done at bs k) (append_assoc (action_bytes a) (actions_bytes xs) rest)
          ∙ (r.is (λ b behind left. actions_at d t (length xs) (done ++ (b ∷ [])) behind left k) ∙ (m.is k ∙ ap (λ (ys : List Action). k ys m.behind rest) (append_assoc done (a ∷ []) xs)));
    }

fitting_read : (width n at : ℕ) (rest : List ℕ) → Fits width n → Reads (fitting_at width at (word n ++ rest)) n rest
fitting_read width n at rest h =
    let r = word_read n at rest in
    record { behind = r.behind; is = λ k. r.is (λ x behind left. cond (ltb x (2 ^ width)) (k x behind left) (Refused (TooWide at))) ∙ cond-true (ltb n (2 ^ width)) _ _ (lt-ltb n (2 ^ width) h.within) }

pattern_read : (width : ℕ) (w : Pattern) (at : ℕ) (rest : List ℕ) → PatternFits width w → Reads (pattern_at width at (pattern_bytes w ++ rest)) w rest
pattern_read width w at rest h =
    let r = fitting_read width w.value at (word w.mask ++ rest) h.value in
    let m = fitting_read width w.mask r.behind rest h.mask in
    record {
      behind = m.behind;
      is = λ k. ap (λ (bs : List ℕ). pattern_at width at bs k) (append_assoc (word w.value) (word w.mask) rest)
          ∙ (r.is (λ v behind left. fitting_at width behind left (λ x. k (record { value = v; mask = x }))) ∙ m.is (λ x. k (record { value = w.value; mask = x })));
    }

patterns_read : (d : Declarations) (fs : List ℕ) (ws done : List Pattern) (at : ℕ) (rest : List ℕ) → PatternsFit d fs ws → Reads (patterns_at d fs done at (patterns_bytes ws ++ rest)) (done ++ ws) rest
unfolding patterns_at PatternsFit
patterns_read d [] [] done at rest h = record { behind = at; is = λ k. ap (λ (ys : List Pattern). k ys at rest) (sym (append-nil done)) }
patterns_read d [] (w ∷ ws) done at rest h = absurd h
patterns_read d (f ∷ fs) [] done at rest h = absurd h
patterns_read d (f ∷ fs) (w ∷ ws) done at rest h =
    let r = pattern_read (d.width f) w at (patterns_bytes ws ++ rest) h.0 in
    let m = patterns_read d fs ws (done ++ (w ∷ [])) r.behind rest h.1 in
    record {
      behind = m.behind;
      is = λ k. ap (λ (bs : List ℕ). patterns_at d (f ∷ fs) done at bs k) (append_assoc (pattern_bytes w) (patterns_bytes ws) rest)
          ∙ (r.is (λ v behind left. patterns_at d fs (done ++ (v ∷ [])) behind left k) ∙ (m.is k ∙ ap (λ (ys : List Pattern). k ys m.behind rest) (append_assoc done (w ∷ []) ws)));
    }

count_read : (n at : ℕ) (rest : List ℕ) → n ≤ 4 → Reads (count_at at (n ∷ rest)) n rest
count_read n at rest h = record { behind = at + 1; is = λ k. cond-true (leb n 4) _ _ (le-leb n 4 h) }

entry_read : (d : Declarations) (t : TableDeclaration) (e : Entry) (at : ℕ) (rest : List ℕ) → EntryFits d t e → Reads (entry_at d t at (entry_bytes e ++ rest)) e rest
entry_read d t e at rest h =
    let p = patterns_read d t.looks e.patterns [] at (length e.actions ∷ (actions_bytes e.actions ++ rest)) h.patterns in
    let c = count_read (length e.actions) p.behind (actions_bytes e.actions ++ rest) h.few_actions in
    let m = actions_read d t e.actions [] c.behind rest h.actions in
    record {
      behind = m.behind;
      is = λ k. ap (λ (bs : List ℕ). entry_at d t at bs k) (append_assoc (patterns_bytes e.patterns) (length e.actions ∷ actions_bytes e.actions) rest)
          ∙ (p.is (λ ps behind left. count_at behind left (λ n behind2 left2. actions_at d t n [] behind2 left2 (λ xs. k (record { patterns = ps; actions = xs }))))
          ∙ (c.is (λ n behind2 left2. actions_at d t n [] behind2 left2 (λ xs. k (record { patterns = e.patterns; actions = xs })))
          ∙ m.is (λ xs. k (record { patterns = e.patterns; actions = xs }))));
    }

entries_read : (d : Declarations) (t : TableDeclaration) (es done : List Entry) (at : ℕ) (rest : List ℕ) → AllByRecursion (EntryFits d t) es →
    Reads (entries_at d t (length es) done at (entries_bytes es ++ rest)) (done ++ es) rest
unfolding entries_at
entries_read d t [] done at rest h = record { behind = at; is = λ k. ap (λ (ys : List Entry). k ys at rest) (sym (append-nil done)) }
entries_read d t (e ∷ es) done at rest h =
    let r = entry_read d t e at (entries_bytes es ++ rest) h.0 in
    let m = entries_read d t es (done ++ (e ∷ [])) r.behind rest h.1 in
    record {
      behind = m.behind;
      is = λ k. ap (λ (bs : List ℕ). entries_at d t (length (e ∷ es)) done at bs k) (append_assoc (entry_bytes e) (entries_bytes es) rest)
          ∙ (r.is (λ b behind left. entries_at d t (length es) (done ++ (b ∷ [])) behind left k) ∙ (m.is k ∙ ap (λ (ys : List Entry). k ys m.behind rest) (append_assoc done (e ∷ []) es)));
    }

table_read : (tables : ℕ) (before : List Edit) (t at : ℕ) (rest : List ℕ) → t < tables → among t (named before) ≡ false → Reads (table_at tables before at (t ∷ rest)) t rest
table_read tables before t at rest l h =
    record { behind = at + 1; is = λ k. cond-true (ltb t tables) _ _ (lt-ltb t tables l) ∙ cond-false (among t (named before)) _ _ h }

size_read : (t : TableDeclaration) (n at : ℕ) (rest : List ℕ) → n ≤ t.lines → Reads (size_at t at (half n ++ rest)) n rest
size_read t n at rest h =
    let r = half_read n at rest in
    record { behind = r.behind; is = λ k. r.is (λ m behind left. cond (leb m t.lines) (k m behind left) (Refused (TooManyEntries at))) ∙ cond-true (leb n t.lines) _ _ (le-leb n t.lines h) }

edit_read : (d : Declarations) (tables : ℕ) (before : List Edit) (t : ℕ) (es : List Entry) (at : ℕ) (rest : List ℕ) → among t (named before) ≡ false → Given d tables t es →
    Reads (edit_at d tables before at (edit_bytes (Replace t es) ++ rest)) (Replace t es) rest
edit_read d tables before t es at rest a h =
    let r = table_read tables before t at (half (length es) ++ (entries_bytes es ++ rest)) h.declared a in
    let c = size_read (d.table t) (length es) r.behind (entries_bytes es ++ rest) h.few in
    let m = entries_read d (d.table t) es [] c.behind rest h.entries in
    record {
      behind = m.behind;
      is = λ k. r.is (λ u behind left. size_at (d.table u) behind left (λ n behind2 left2. entries_at d (d.table u) n [] behind2 left2 (λ xs. k (Replace u xs))))
          ∙ (c.is (λ n behind2 left2. entries_at d (d.table t) n [] behind2 left2 (λ xs. k (Replace t xs))) ∙ m.is (λ xs. k (Replace t xs)));
    }

edits_read : (d : Declarations) (tables : ℕ) (gs done : List Edit) (at : ℕ) (rest : List ℕ) → Apart done gs → AllByRecursion (EditFits d tables) gs →
    Reads (edits_at d tables (length gs) done at (edits_bytes gs ++ rest)) (done ++ gs) rest
unfolding edits_at Apart
edits_read d tables [] done at rest a h = record { behind = at; is = λ k. ap (λ (ys : List Edit). k ys at rest) (sym (append-nil done)) }
edits_read d tables (Replace t es ∷ gs) done at rest a h =
    let r = edit_read d tables done t es at (edits_bytes gs ++ rest) a.0 h.0 in
    let m = edits_read d tables gs (done ++ (Replace t es ∷ [])) r.behind rest a.1 h.1 in
    record {
      behind = m.behind;
      is = λ k. ap (λ (bs : List ℕ). edits_at d tables (length (Replace t es ∷ gs)) done at bs k) (append_assoc (edit_bytes (Replace t es)) (edits_bytes gs) rest)
          ∙ (r.is (λ b behind left. edits_at d tables (length gs) (done ++ (b ∷ [])) behind left k)
          ∙ (m.is k ∙ ap (λ (ys : List Edit). k ys m.behind rest) (append_assoc done (Replace t es ∷ []) gs)));
    }

pub round_trip : RoundTrip
round_trip d tables gs h =
    let r = edits_read d tables gs [] 1 [] h.apart h.each in
    ap (λ (bs : List ℕ). edits_at d tables (length gs) [] 1 bs wholly) (sym (append-nil (edits_bytes gs))) ∙ r.is wholly

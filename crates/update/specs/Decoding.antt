-- Decoding an update against what a program declares: from front to back, and the first fault ends it.
use Rattle.std.specs.Prelude.{ℕ, zero, suc, ◌^◌, Bool, false, cond, ◌||◌, List, [], ◌∷◌, ◌++◌, ◌==◌, nat_le, nat_lt}
use Rattle.model.specs.Declarations.{Declarations, TableDeclaration}
use Rattle.model.specs.Action.{Operand, Field, Number, Action, Set, Add}
use Rattle.model.specs.Table.{Pattern, Entry}
use Rattle.model.specs.Version.{Edit, Replace}
use Rattle.update.specs.Decoded.{LeftOver, NoAction, NoOperand, NoField, TooWide, NoTable, TableTwice, TooManyEntries, TooManyActions, NotItsField, Decoded, Taken, Refused, Then}
use Rattle.update.specs.Numbers.{byte_at, half_at, word_at}

abbrev pub among : ℕ → List ℕ → Bool
among x [] = false
among x (y ∷ ys) = y == x || among x ys

-- a field is there if it has a width
abbrev pub is_there : Declarations → ℕ → Bool
is_there d f = nat_lt 0 (d.width f)

-- the number of a field that is there
abbrev pub field_at : Declarations → ℕ → List ℕ → Then ℕ → Decoded
field_at d at bs k = byte_at at bs (λ f behind rest. cond (is_there d f) (k f behind rest) (Refused (NoField at)))

-- a number is 0 and four bytes, a field is 1 and its number
abbrev pub operand_by : Declarations → ℕ → ℕ → ℕ → List ℕ → Then Operand → Decoded
operand_by d from zero at bs k = word_at at bs (λ n. k (Number n))
operand_by d from (suc zero) at bs k = field_at d at bs (λ f. k (Field f))
operand_by d from (suc (suc kind)) at bs k = Refused (NoOperand from)

abbrev pub operand_at : Declarations → ℕ → List ℕ → Then Operand → Decoded
operand_at d at bs k = byte_at at bs (λ kind behind rest. operand_by d at kind behind rest k)

-- 1 sets, 2 adds
abbrev pub change_by : ℕ → ℕ → Then (ℕ → Operand → Action) → ℕ → List ℕ → Decoded
change_by from zero k at bs = Refused (NoAction from)
change_by from (suc zero) k at bs = k Set at bs
change_by from (suc (suc zero)) k at bs = k Add at bs
change_by from (suc (suc (suc kind))) k at bs = Refused (NoAction from)

-- a field that the table may set
abbrev pub settable_at : TableDeclaration → ℕ → List ℕ → Then ℕ → Decoded
settable_at t at bs k = byte_at at bs (λ f behind rest. cond (among f t.sets) (k f behind rest) (Refused (NotItsField at)))

abbrev pub action_at : Declarations → TableDeclaration → ℕ → List ℕ → Then Action → Decoded
action_at d t at bs k =
    byte_at at bs (λ kind behind rest. change_by at kind
    (λ change behind2 rest2. settable_at t behind2 rest2 (λ f behind3 rest3. operand_at d behind3 rest3 (λ o. k (change f o)))) behind rest)

-- so many actions, behind those read so far
unfoldable pub actions_at : Declarations → TableDeclaration → ℕ → List Action → ℕ → List ℕ → Then (List Action) → Decoded
actions_at d t zero done at bs k = k done at bs
actions_at d t (suc n) done at bs k = action_at d t at bs (λ a behind rest. actions_at d t n (done ++ (a ∷ [])) behind rest k)

-- a number that fits a field's width
abbrev pub fitting_at : ℕ → ℕ → List ℕ → Then ℕ → Decoded
fitting_at width at bs k = word_at at bs (λ x behind rest. cond (nat_lt x (2 ^ width)) (k x behind rest) (Refused (TooWide at)))

-- a value and a mask, within the field's width
abbrev pub pattern_at : ℕ → ℕ → List ℕ → Then Pattern → Decoded
pattern_at width at bs k = fitting_at width at bs (λ v behind rest. fitting_at width behind rest (λ m. k (record { value = v; mask = m })))

-- one for each field that is looked at, behind those read so far
unfoldable pub patterns_at : Declarations → List ℕ → List Pattern → ℕ → List ℕ → Then (List Pattern) → Decoded
patterns_at d [] done at bs k = k done at bs
patterns_at d (f ∷ fs) done at bs k = pattern_at (d.width f) at bs (λ w behind rest. patterns_at d fs (done ++ (w ∷ [])) behind rest k)

-- how many actions: at most four
abbrev pub count_at : ℕ → List ℕ → Then ℕ → Decoded
count_at at bs k = byte_at at bs (λ n behind rest. cond (nat_le n 4) (k n behind rest) (Refused (TooManyActions at)))

abbrev pub entry_at : Declarations → TableDeclaration → ℕ → List ℕ → Then Entry → Decoded
entry_at d t at bs k =
    patterns_at d t.looks [] at bs (λ ps behind rest. count_at behind rest (λ n behind2 rest2.
    actions_at d t n [] behind2 rest2 (λ as_read. k (record { patterns = ps; actions = as_read }))))

unfoldable pub entries_at : Declarations → TableDeclaration → ℕ → List Entry → ℕ → List ℕ → Then (List Entry) → Decoded
entries_at d t zero done at bs k = k done at bs
entries_at d t (suc n) done at bs k = entry_at d t at bs (λ e behind rest. entries_at d t n (done ++ (e ∷ [])) behind rest k)

-- the tables that edits name
abbrev pub named : List Edit → List ℕ
named [] = []
named (Replace t es ∷ gs) = t ∷ named gs

-- a table that is there and was not named before in this update
abbrev pub table_at : ℕ → List Edit → ℕ → List ℕ → Then ℕ → Decoded
table_at tables before at bs k =
    byte_at at bs (λ n behind rest. cond (nat_lt n tables) (cond (among n (named before)) (Refused (TableTwice at)) (k n behind rest)) (Refused (NoTable at)))

-- how many entries: at most so many as the table may have
abbrev pub size_at : TableDeclaration → ℕ → List ℕ → Then ℕ → Decoded
size_at t at bs k = half_at at bs (λ n behind rest. cond (nat_le n t.lines) (k n behind rest) (Refused (TooManyEntries at)))

-- a table and all its new entries
abbrev pub edit_at : Declarations → ℕ → List Edit → ℕ → List ℕ → Then Edit → Decoded
edit_at d tables before at bs k =
    table_at tables before at bs (λ t behind rest. size_at (d.table t) behind rest (λ m behind2 rest2.
    entries_at d (d.table t) m [] behind2 rest2 (λ es. k (Replace t es))))

-- so many edits, behind those read so far
unfoldable pub edits_at : Declarations → ℕ → ℕ → List Edit → ℕ → List ℕ → Then (List Edit) → Decoded
edits_at d tables zero done at bs k = k done at bs
edits_at d tables (suc n) done at bs k = edit_at d tables done at bs (λ g behind rest. edits_at d tables n (done ++ (g ∷ [])) behind rest k)

-- nothing is left over
abbrev pub wholly : Then (List Edit)
wholly gs at [] = Taken gs
wholly gs at (b ∷ bs) = Refused (LeftOver at)

-- an update of a program with so many tables
abbrev pub decoded : Declarations → ℕ → List ℕ → Decoded
decoded d tables bs = byte_at 0 bs (λ n at rest. edits_at d tables n [] at rest wholly)

-- The bytes of an update: numbers stand high byte first.
use Rattle.std.specs.Prelude.{ℕ, ◌/◌, ◌%◌, Bool, true, ◌&&◌, List, [], ◌∷◌, ◌++◌, length, nat_le}
use Rattle.std.specs.List.{flat_map}
use Rattle.model.specs.Action.{Operand, Field, Number, Action, Set, Add}
use Rattle.model.specs.Table.{Pattern, Entry}
use Rattle.model.specs.Version.{Edit, Replace}

-- a number in two bytes, and in four
abbrev pub half : ℕ → List ℕ
half n = n / 256 ∷ (n % 256 ∷ [])

abbrev pub word : ℕ → List ℕ
word n = half (n / 65536) ++ half (n % 65536)

-- a number is 0 and four bytes, a field is 1 and its number
abbrev pub operand_bytes : Operand → List ℕ
operand_bytes (Number n) = 0 ∷ word n
operand_bytes (Field f) = 1 ∷ (f ∷ [])

-- 1 sets, 2 adds
abbrev pub action_bytes : Action → List ℕ
action_bytes (Set f o) = 1 ∷ (f ∷ operand_bytes o)
action_bytes (Add f o) = 2 ∷ (f ∷ operand_bytes o)

abbrev pub actions_bytes : List Action → List ℕ
actions_bytes xs = flat_map action_bytes xs

abbrev pub pattern_bytes : Pattern → List ℕ
pattern_bytes w = word w.value ++ word w.mask

abbrev pub patterns_bytes : List Pattern → List ℕ
patterns_bytes xs = flat_map pattern_bytes xs

-- the patterns, how many actions there are, and the actions
abbrev pub entry_bytes : Entry → List ℕ
entry_bytes e = patterns_bytes e.patterns ++ (length e.actions ∷ actions_bytes e.actions)

abbrev pub entries_bytes : List Entry → List ℕ
entries_bytes xs = flat_map entry_bytes xs

-- a table, how many entries it is given, and the entries
abbrev pub edit_bytes : Edit → List ℕ
edit_bytes (Replace t es) = t ∷ (half (length es) ++ entries_bytes es)

abbrev pub edits_bytes : List Edit → List ℕ
edits_bytes xs = flat_map edit_bytes xs

-- how many tables are given entries, and the edits
abbrev pub encoded : List Edit → List ℕ
encoded gs = length gs ∷ edits_bytes gs

-- whether the counts fit their bytes: one for the tables, two for the entries of each
unfoldable pub each_counted : List Edit → Bool
each_counted [] = true
each_counted (Replace t es ∷ gs) = nat_le (length es) 65535 && each_counted gs

abbrev pub counted : List Edit → Bool
counted gs = nat_le (length gs) 255 && each_counted gs

-- What is written are bytes.
use Rattle.std.proofs.Common.{ℕ, ◌^◌, ◌<◌, List, [], ◌∷◌, length, arith}
use Rattle.std.specs.List.{flat_map, AllByRecursion}
use Rattle.std.proofs.ByRecursion.{All-append}
use Rattle.model.specs.Declarations.{Declarations, TableDeclaration}
use Rattle.model.specs.Action.{Operand, Field, Number, Action, Set, Add}
use Rattle.model.specs.Table.{Pattern, Entry}
use Rattle.model.specs.Version.{Edit, Replace}
use Rattle.encoding.specs.Encoded.{half, word, operand_bytes, action_bytes, pattern_bytes, patterns_bytes, actions_bytes, entry_bytes, entries_bytes, edit_bytes}
use Rattle.encoding.specs.WellFormed.{PatternFits, PatternsFit, OperandFits, ActionFits, EntryFits, EditFits}
use Rattle.encoding.specs.RoundTrip.{Byte, OnlyBytes}

each_bytes : {A : Type 0} (f : A → List ℕ) (P : A → Type 0) → ((x : A) → P x → AllByRecursion Byte (f x)) → (xs : List A) → AllByRecursion P xs → AllByRecursion Byte (flat_map f xs)
each_bytes f P h [] a = tt
each_bytes f P h (x ∷ xs) a = All-append Byte (f x) (flat_map f xs) (h x a.0) (each_bytes f P h xs a.1)

half_bytes : (n : ℕ) → n < 65536 → AllByRecursion Byte (half n)
half_bytes n h = (omega arith, (omega arith, tt))

word_bytes : (n : ℕ) → n < 2 ^ 32 → AllByRecursion Byte (word n)
word_bytes n h = (omega arith, (omega arith, (omega arith, (omega arith, tt))))

operand_bytes_lem : (d : Declarations) (o : Operand) → OperandFits d o → AllByRecursion Byte (operand_bytes o)
operand_bytes_lem d (Number n) h = (omega arith, word_bytes n h)
operand_bytes_lem d (Field f) h = (omega arith, (h.one_byte, tt))

action_bytes_lem : (d : Declarations) (t : TableDeclaration) (a : Action) → ActionFits d t a → AllByRecursion Byte (action_bytes a)
action_bytes_lem d t (Set f o) h = (omega arith, (h.0.one_byte, operand_bytes_lem d o h.1))
action_bytes_lem d t (Add f o) h = (omega arith, (h.0.one_byte, operand_bytes_lem d o h.1))

pattern_bytes_lem : (width : ℕ) (w : Pattern) → PatternFits width w → AllByRecursion Byte (pattern_bytes w)
pattern_bytes_lem width w h = All-append Byte (word w.value) (word w.mask) (word_bytes w.value h.value.four_bytes) (word_bytes w.mask h.mask.four_bytes)

patterns_bytes_lem : (d : Declarations) (fs : List ℕ) (ws : List Pattern) → PatternsFit d fs ws → AllByRecursion Byte (patterns_bytes ws)
unfolding PatternsFit
patterns_bytes_lem d [] [] h = tt
patterns_bytes_lem d [] (w ∷ ws) h = absurd h
patterns_bytes_lem d (f ∷ fs) [] h = absurd h
patterns_bytes_lem d (f ∷ fs) (w ∷ ws) h = All-append Byte (pattern_bytes w) (patterns_bytes ws) (pattern_bytes_lem (d.width f) w h.0) (patterns_bytes_lem d fs ws h.1)

entry_bytes_lem : (d : Declarations) (t : TableDeclaration) (e : Entry) → EntryFits d t e → AllByRecursion Byte (entry_bytes e)
entry_bytes_lem d t e h =
    All-append Byte (patterns_bytes e.patterns) (length e.actions ∷ actions_bytes e.actions) (patterns_bytes_lem d t.looks e.patterns h.patterns)
    (omega (arith, h.few_actions), each_bytes action_bytes (ActionFits d t) (action_bytes_lem d t) e.actions h.actions)

edit_bytes_lem : (d : Declarations) (tables : ℕ) (g : Edit) → EditFits d tables g → AllByRecursion Byte (edit_bytes g)
edit_bytes_lem d tables (Replace t es) h =
    (h.one_byte, All-append Byte (half (length es)) (entries_bytes es) (half_bytes (length es) h.two_bytes) (each_bytes entry_bytes (EntryFits d (d.table t)) (entry_bytes_lem d (d.table t)) es h.entries))

pub only_bytes : OnlyBytes
only_bytes d tables gs h = (h.few, each_bytes edit_bytes (EditFits d tables) (edit_bytes_lem d tables) gs h.each)

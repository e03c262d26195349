-- What the code's answers stand for.
use Rattle.std.specs.Prelude.{◌≡◌, ℕ, Bool, true, false, List, Some, None, Ok, Err, vec_items, Option, Result, Vec}
use Rattle.model.specs.Action as action
use Rattle.program.specs.Stands.{FieldNo}
use Rattle.model.specs.Table as table
use Rattle.table.specs.Stands.{actions_of, patterns_of, entries_of, edits_of}
use Rattle.few.specs.Few.{items_of}
use Rattle.few.specs.declared.few.Few.{Few}
use Rattle.program.specs.declared.action.Action.{Action}
use Rattle.table.specs.declared.entry.Pattern.{Pattern}
use Rattle.table.specs.declared.entry.Edit.{Edit}
use Rattle.table.specs.declared.entry.Entry.{Entry}
use Rattle.model.specs.Version as version
use Rattle.std.specs.declared.alloc.Global.{Global}
use Rattle.update.specs.Decoded as decoded
use Rattle.update.specs.declared.action.Change.{Change}
use Rattle.update.specs.declared.action.Change.TheVariants as changes
use Rattle.update.specs.declared.fault.Fault.{Fault}
use Rattle.update.specs.declared.fault.Fault.TheVariants.{RunsOut, LeftOver, NoAction, NoOperand, NoField, TooWide, NoTable, TableTwice, TooManyEntries, TooManyActions, NotItsField, NoMemory}

-- the definition refuses with this fault; want of memory says nothing of it
abbrev pub Refuses : Fault → decoded.Decoded → Type 0
Refuses (RunsOut o) d = d ≡ decoded.Refused (decoded.RunsOut o)
Refuses (LeftOver o) d = d ≡ decoded.Refused (decoded.LeftOver o)
Refuses (NoAction o) d = d ≡ decoded.Refused (decoded.NoAction o)
Refuses (NoOperand o) d = d ≡ decoded.Refused (decoded.NoOperand o)
Refuses (NoField o) d = d ≡ decoded.Refused (decoded.NoField o)
Refuses (TooWide o) d = d ≡ decoded.Refused (decoded.TooWide o)
Refuses (NoTable o) d = d ≡ decoded.Refused (decoded.NoTable o)
Refuses (TableTwice o) d = d ≡ decoded.Refused (decoded.TableTwice o)
Refuses (TooManyEntries o) d = d ≡ decoded.Refused (decoded.TooManyEntries o)
Refuses (TooManyActions o) d = d ≡ decoded.Refused (decoded.TooManyActions o)
Refuses (NotItsField o) d = d ≡ decoded.Refused (decoded.NotItsField o)
Refuses NoMemory d = Unit {0}

-- a reader gives what stands for x, whatever follows; or it refuses, whatever would have followed
abbrev pub Gives : {X A : Type 0} → (decoded.Then A → decoded.Decoded) → Result X Fault → (X → A) → ℕ → List ℕ → Type 0
Gives s (Ok x) of at rest = (k : decoded.Then _) → s k ≡ k (of x) at rest
Gives s (Err f) of at rest = (k : decoded.Then _) → Refuses f (s k)

-- a search for the field f answers whether it is among others
abbrev pub Found : Option FieldNo → Bool → ℕ → Type 0
Found (Some x) b f = (b ≡ true) × (x.at ≡ f)
Found None b f = b ≡ false

abbrev pub change_of : Change → ℕ → action.Operand → action.Action
change_of changes.Set = action.Set
change_of changes.Add = action.Add

abbrev pub actions_listed : Few Action 4 → List action.Action
actions_listed v = actions_of (items_of v)

abbrev pub patterns_listed : Few Pattern 4 → List table.Pattern
patterns_listed v = patterns_of (items_of v)

abbrev pub entries_listed : Vec Entry Global → List table.Entry
entries_listed v = entries_of (vec_items v)

abbrev pub edits_listed : Vec Edit Global → List version.Edit
edits_listed v = edits_of (vec_items v)

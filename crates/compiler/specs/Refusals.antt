-- Why a source is not compiled, as code and offset.
use Rattle.std.specs.Prelude.{◌≡◌, ℕ}
use Rattle.source.specs.Faults as source
use Rattle.source.specs.Reading as reading
use Rattle.compiler.specs.declared.refusal.Refusal.{Refusal}
use Rattle.compiler.specs.declared.refusal.Refusal.TheVariants.{Unread, Unplaced, Memory}
use Rattle.compiler.specs.Compiling.{Compiled, Refused}

abbrev pub answer_of : Refusal → ℕ × ℕ
answer_of (Unread f) = ((source.answer_of f).code, (source.answer_of f).offset)
answer_of (Unplaced o) = (10, o)
answer_of Memory = (255, 0)

-- the definition refuses with this code and offset; want of memory says nothing of it
abbrev pub Refuses : Refusal → Compiled → Type 0
Refuses (Unread f) c = c ≡ Refused (source.answer_of f).code (source.answer_of f).offset
Refuses (Unplaced o) c = c ≡ Refused 10 o
Refuses Memory c = Unit {0}

-- reading itself refuses so
abbrev pub Unreadable : Refusal → reading.Outcome → Type 0
Unreadable (Unread f) o = o ≡ reading.refused f
Unreadable (Unplaced p) o = ⊥
Unreadable Memory o = Unit {0}

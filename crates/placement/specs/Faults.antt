-- Why a program is not placed, and what that says of the model's verdict.
use Rattle.std.specs.Prelude.{◌≡◌, ℕ, ◌≤◌}
use Rattle.model.specs.Stopping.{Verdict, Refused, Lowest, offset_of}
use Rattle.placement.specs.declared.Fault.{Fault}
use Rattle.placement.specs.declared.Fault.TheVariants.{NoRoom, NoMemory}

-- the code and the offset by which a fault is told
abbrev pub answer_of : Fault → ℕ × ℕ
answer_of (NoRoom o) = (10, o)
answer_of NoMemory = (255, 0)

-- the model refuses with this fault; want of memory says nothing of it
abbrev pub Refuses : Fault → Verdict → Type 0
Refuses (NoRoom o) v = v ≡ Refused o
Refuses NoMemory v = Unit {0}

-- a node behind n others is one too many, and the fault has the smaller of its offset and those noted before
abbrev pub TooMany : Fault → ℕ → Lowest → ℕ → Type 0
TooMany (NoRoom p) n w o = (512 ≤ n) × (p ≡ offset_of w o)
TooMany NoMemory n w o = Unit {0}

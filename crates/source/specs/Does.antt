-- How the code's answers stand for steps.
use Rattle.std.specs.Prelude.{◌≡◌, ◌⊎◌, Ok, Err, Result}
use Rattle.source.specs.declared.fault.Fault.{Fault}
use Rattle.source.specs.declared.fault.Fault.TheVariants.{Memory}
use Rattle.source.specs.declared.phase.Phase.{Phase}
use Rattle.source.specs.declared.seen.Seen.{Seen}
use Rattle.source.specs.Steps.{Step, go, stop}
use Rattle.source.specs.Reading.{Outcome, taken, refused}
use Rattle.source.specs.Stands.{seen_of, phase_of}

-- a step was done, and left the state d; or there was no memory for it
abbrev pub Does : Step → Result Phase Fault → Seen → Type 0
Does s (Ok p) d = s ≡ go (phase_of p) (seen_of d)
Does s (Err f) d = (f ≡ Memory) ⊎ (s ≡ stop f)

-- what was awaited is there, whatever comes behind it
abbrev pub Passes : (Step → Step) → Result (Unit {0}) Fault → Type 0
Passes s (Ok u) = (k : Step) → s k ≡ k
Passes s (Err f) = (k : Step) → s k ≡ stop f

abbrev pub Gives : {X Y : Type 0} → ((Y → Step) → Step) → (X → Y) → Result X Fault → Type 0
Gives {Y = Y} s of (Ok x) = (k : Y → Step) → s k ≡ k (of x)
Gives {Y = Y} s of (Err f) = (k : Y → Step) → s k ≡ stop f

-- a source was read, or there was no memory for it
abbrev pub Reads : Outcome → Result Seen Fault → Type 0
Reads o (Ok d) = o ≡ taken (seen_of d)
Reads o (Err f) = (f ≡ Memory) ⊎ (o ≡ refused f)

-- A packet as a program sees it: numbers by field. Which headers are there, and the payload, stand in fields that no program names.
use Rattle.std.specs.Prelude.{ℕ, ◌-◌, cond, List, [], ◌∷◌, length, ◌==◌, slice_index}

-- field f of the packet p holds p f
abbrev pub Packet : Type 0
Packet = ℕ → ℕ

-- the field that says by which port a packet leaves; 0 there: it is dropped
abbrev pub egress : ℕ
egress = 0

-- the packet with x in field f, all else as it was
abbrev pub put : ℕ → ℕ → Packet → Packet
put f x p g = cond (g == f) x (p g)

-- a packet that leaves, and the port by which it does
pub record Departure : Type 0 where
  pub port : ℕ
  pub packet : Packet

-- what leaves for one packet at the end of the pipeline
abbrev pub departs : Packet → List Departure
departs p = record { port = p egress; packet = p } ∷ []

-- what a packet has behind the 64 fields of a program: field 64 says which headers are there, 65 how long the payload is, and from 66 on it stands byte by byte
abbrev pub besides : ℕ → List ℕ → Packet
besides present bytes f = cond (f == 64) present (cond (f == 65) (length bytes) (slice_index bytes (f - 66)))

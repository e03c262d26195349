-- The frames that a switch writes.
use Rattle.std.specs.Prelude.{ℕ, ◌%◌, cond, List, [], ◌∷◌, ◌++◌, length, ◌==◌}
use Rattle.std.specs.List.{flat_map}
use Rattle.model.specs.Packet.{Departure}
use Rattle.packet.specs.Carrying.{held}
use Rattle.packet.specs.Deparsing.{deparse}
use Rattle.frames.specs.Numbers.{two_bytes, four_bytes}
use Rattle.frames.specs.declared.kind.Kind.{Kind}
use Rattle.frames.specs.declared.kind.Kind.TheVariants as kind
use Rattle.compiler.specs.Program.{Format}

-- a source or an update is answered by 17, a code and an offset; any other frame that is refused by 18 and a code
abbrev pub told : (code offset : ℕ) → List ℕ
told code offset = 17 ∷ (code ∷ four_bytes offset)

abbrev pub refused : (code : ℕ) → List ℕ
refused code = 18 ∷ (code ∷ [])

-- the input ends within a frame
abbrev pub cut_short : Kind → List ℕ
cut_short kind.Source = told 1 0
cut_short kind.Update = told 1 0
cut_short kind.Packet = refused 1

-- 16, the port, a length and the packet's bytes
abbrev pub packet_frame : ℕ → List ℕ → List ℕ
packet_frame port bytes = 16 ∷ ((port % 256) ∷ (two_bytes (length bytes) ++ bytes))

-- a packet that leaves is put together and sent by its port; port 0 drops it
abbrev pub sent : Format → Departure → List ℕ
sent p x = cond (x.port == 0) [] (packet_frame x.port (deparse p.declarations.width p.headers (held x.packet)))

abbrev pub sent_all : Format → List Departure → List ℕ
sent_all p xs = flat_map (sent p) xs

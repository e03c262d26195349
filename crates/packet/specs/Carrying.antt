-- A packet taken apart, as the pipeline carries it, and back.
use Rattle.std.specs.Prelude.{ℕ, zero, suc, ◌+◌, ◌*◌, Bool, cond, List, [], ◌∷◌, nat_lt}
use Rattle.model.specs.Packet.{Packet, besides}
use Rattle.packet.specs.Contents.{Contents}
use Rattle.packet.specs.Stands.{present_of}

-- which of the first so many headers are there, as a number: bit i for header i
unfoldable pub presence : ℕ → (ℕ → Bool) → ℕ
presence zero present = 0
presence (suc n) present = cond (present 0) 1 0 + 2 * presence n (λ number. present (suc number))

-- 64 fields that a program may name, and behind them what no program names
abbrev pub carried : Contents → Packet
carried c f = cond (nat_lt f 64) (c.fields f) (besides (presence 8 c.present) c.payload f)

-- so many bytes, from a field on
unfoldable pub bytes_from : ℕ → ℕ → Packet → List ℕ
bytes_from zero f p = []
bytes_from (suc n) f p = p f ∷ bytes_from n (f + 1) p

-- what a packet holds that was carried
abbrev pub held : Packet → Contents
held p = record { fields = p; present = present_of (p 64); payload = bytes_from (p 65) 66 p }

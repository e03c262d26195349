-- What a packet holds, and why one is refused.
use Rattle.std.specs.Prelude.{ℕ, Bool, true, false, cond, List, ◌==◌}
use Rattle.model.specs.Packet.{Packet}
use Rattle.packet.specs.declared.parsed.Refused.{Refused}
use Rattle.packet.specs.declared.parsed.Refused.TheVariants.{EndsWithinHeader, TooLong}

-- the values of a packet's fields, which headers of the source it has, and the bytes behind them
pub record Contents : Type 0 where
  pub fields : Packet
  pub present : ℕ → Bool
  pub payload : List ℕ

-- before the first header is read: no field has a value, no header is there, and all bytes are left
abbrev pub unread : List ℕ → Contents
unread bytes = record { fields = λ field. 0; present = λ number. false; payload = bytes }

-- the headers with one more
abbrev pub with : ℕ → (ℕ → Bool) → ℕ → Bool
with number present n = cond (n == number) true (present n)

-- the code of a refusal
abbrev pub code : Refused → ℕ
code EndsWithinHeader = 6
code TooLong = 6

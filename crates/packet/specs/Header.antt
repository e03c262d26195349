-- Headers as the parser and the deparser see them: which fields they have, how many bits, and what comes behind.
use Rattle.std.specs.Prelude.{ℕ, zero, suc, ◌+◌, ◌/◌, Bool, false, cond, List, [], ◌∷◌, ◌==◌}

-- the bits of each field
abbrev pub Widths : Type 0
Widths = ℕ → ℕ

-- what comes behind a header: the payload, or a header by its number in the source
pub data Next : Type 0 where
  End : Next
  Then : ℕ → Next

-- what comes if the choosing field has this value
pub record Choice : Type 0 where
  pub value : ℕ
  pub next : Next

-- a header has `count` fields, numbered from `first` on; the value of the field `by` picks among the choices, of which there are none if the source has no `after`
pub record Header : Type 0 where
  pub first : ℕ
  pub count : ℕ
  pub by : ℕ
  pub choices : List Choice

-- the first choice whose value equals the field's; none is the end
unfoldable pub chosen : List Choice → ℕ → Next
chosen [] x = End
chosen (c ∷ cs) x = cond (c.value == x) c.next (chosen cs x)

-- whether the header that comes next is this one
abbrev pub comes : Next → ℕ → Bool
comes End number = false
comes (Then n) number = n == number

-- the bits of so many fields, from a number on
unfoldable pub bit_count : Widths → ℕ → ℕ → ℕ
bit_count w zero field = 0
bit_count w (suc count) field = w field + bit_count w count (field + 1)

-- the bytes that a header takes; were its bits not whole bytes, the last one is begun
abbrev pub size : Widths → Header → ℕ
size w h = (bit_count w h.count h.first + 7) / 8

-- What the code's values stand for. Every function is total.
use Rattle.std.specs.Prelude.{ℕ, ◌/◌, ◌%◌, ◌^◌, Bool, List, [], map, Some, None, Ok, Err, vec_items, Option, Result, ◌==◌, slice_index}
use Rattle.model.specs.Packet.{Packet}
use Rattle.program.specs.declared.field.Fields.{Fields}
use Rattle.program.specs.declared.field.Widths.{Widths}
use Rattle.program.specs.Stands.{HeaderNo, bits_of}
use Rattle.program.specs.declared.headers.Choice.{Choice}
use Rattle.program.specs.declared.headers.After.{After}
use Rattle.program.specs.declared.headers.Header.{Header}
use Rattle.program.specs.declared.headers.Headers.{Headers}
use Rattle.packet.specs.Header as model
use Rattle.packet.specs.Contents.{Contents}
use Rattle.packet.specs.declared.format.Format.{Format}
use Rattle.packet.specs.declared.parsed.Parsed.{Parsed}
use Rattle.packet.specs.declared.parsed.Refused.{Refused}

-- the bits of each field; a field past the last has none
abbrev pub widths_of : Widths → model.Widths
widths_of w field = slice_index (bits_of w) field

-- the values of fields; one past the last is 0
abbrev pub fields_of : Fields → Packet
fields_of x field = slice_index x.of field

-- bit i says whether header i is there
abbrev pub present_of : ℕ → ℕ → Bool
present_of present number = present / 2 ^ number % 2 == 1

abbrev pub next_of : Option HeaderNo → model.Next
next_of None = model.End
next_of (Some n) = model.Then n.at

abbrev pub choice_of : Choice → model.Choice
choice_of c = record { value = c.value; next = next_of c.next }

abbrev pub choices_of : List Choice → List model.Choice
choices_of cs = map choice_of cs

-- the choosing field; where there is no `after` it does not matter which
abbrev pub by_of : Option After → ℕ
by_of (Some a) = a.field.at
by_of None = 0

abbrev pub after_of : Option After → List model.Choice
after_of (Some a) = choices_of (vec_items a.choices)
after_of None = []

abbrev pub header_of : Header → model.Header
header_of h = record { first = h.from; count = h.fields; by = by_of h.after; choices = after_of h.after }

abbrev pub headers_of : Headers → List model.Header
headers_of hs = map header_of (vec_items hs.all)

-- by what packets are taken apart and put together
abbrev pub widths_in : Format → model.Widths
widths_in f = widths_of f.widths.now

abbrev pub headers_in : Format → List model.Header
headers_in f = headers_of f.headers.now

-- fields, the bits of the present headers and a payload
abbrev pub holding : Fields → ℕ → List ℕ → Contents
holding fields present payload = record { fields = fields_of fields; present = present_of present; payload = payload }

-- what the parser answers
abbrev pub outcome_of : Result Parsed Refused → Result Contents Refused
outcome_of (Ok p) = Ok (holding p.fields p.present p.payload.now)
outcome_of (Err e) = Err e

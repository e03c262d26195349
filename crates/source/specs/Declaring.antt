-- Headers and their fields.
use Rattle.std.specs.Prelude.{ℕ, ◌+◌, ◌%◌, min, Bool, cond, ◌&&◌, ◌||◌, List, [], ◌∷◌, ◌++◌, length, is_some, codes, ◌==◌, nat_lt, slice_set}
use Rattle.std.specs.Str.{bytes_eq}
use Rattle.token.specs.declared.token.Sign.TheVariants.{Open, Close, Semicolon}
use Rattle.token.specs.Tokens.{Token}
use Rattle.source.specs.declared.fault.Fault.TheVariants.{Range, Header}
use Rattle.source.specs.Names.{Entry, Field, find, find_in}
use Rattle.source.specs.State.{Names, Seen, with_names, HeaderPhase, HeaderName, HeaderOpen, FieldName, FieldWidth, FieldEnd, Item, InHeader}
use Rattle.source.specs.Steps.{Step, go, stop, is_sign, sign, word, number, fresh, room}

abbrev pub is_out : List ℕ → Bool
is_out w = bytes_eq w (codes "out")

abbrev pub header_taken : Names → List ℕ → Bool
header_taken n w = is_some (find n.headers w)

-- no field may be called `out`
abbrev pub field_taken : Names → ℕ → List ℕ → Bool
field_taken n h w = is_out w || is_some (find_in n.fields h w)

abbrev pub add_header : Entry → Seen → Seen
add_header e d = with_names (record {
  headers = d.names.headers ++ e ∷ [];
  fields = d.names.fields;
  widths = d.names.widths;
  tables = d.names.tables;
}) d

abbrev pub add_field : Field → Seen → Seen
add_field f d = with_names (record {
  headers = d.names.headers;
  fields = d.names.fields ++ f ∷ [];
  widths = d.names.widths;
  tables = d.names.tables;
}) d

abbrev pub set_width : ℕ → ℕ → Seen → Seen
set_width f n d = with_names (record {
  headers = d.names.headers;
  fields = d.names.fields;
  widths = slice_set d.names.widths f n;
  tables = d.names.tables;
}) d

abbrev pub header_name : Seen → Token → Step
header_name d x = word x (λ w. fresh (header_taken d.names w) x.at w (λ v.
    room x.at (length d.names.headers) 8 (λ n. go (InHeader (HeaderOpen n)) (add_header (record { name = v; number = n }) d))))

-- the bits of a header: 257 stands for all that are more than 32 bytes
abbrev pub whole_bytes : ℕ → Bool
whole_bytes bits = nat_lt 0 bits && (nat_lt bits 257 && bits % 8 == 0)

abbrev pub more_bits : ℕ → ℕ → ℕ
more_bits bits n = min (bits + n) 257

-- a field, or the end of the header
abbrev pub field_name : ℕ → ℕ → Seen → Token → Step
field_name h bits d x = cond (is_sign Close x.kind) (cond (whole_bytes bits) (go Item d) (stop (Header x.at)))
    (word x (λ w. fresh (field_taken d.names h w) x.at w (λ v.
    room x.at (length d.names.fields + 1) 64 (λ n. go (InHeader (FieldWidth h n bits)) (add_field (record { name = v; header = h; number = n }) d)))))

abbrev pub field_width : ℕ → ℕ → ℕ → Seen → Token → Step
field_width h f bits d x = number x (λ n. cond (nat_lt 0 n && nat_lt n 33) (go (InHeader (FieldEnd h (more_bits bits n))) (set_width f n d)) (stop (Range x.at)))

abbrev pub in_header : HeaderPhase → Seen → Token → Step
in_header HeaderName d x = header_name d x
in_header (HeaderOpen h) d x = sign Open x (go (InHeader (FieldName h 0)) d)
in_header (FieldName h bits) d x = field_name h bits d x
in_header (FieldWidth h f bits) d x = field_width h f bits d x
in_header (FieldEnd h bits) d x = sign Semicolon x (go (InHeader (FieldName h bits)) d)

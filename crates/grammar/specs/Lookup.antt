-- What names stand for, among those that are declared so far.
use Rattle.std.specs.Prelude.{◌≡◌, ℕ, ◌^◌, ◌<◌, ◌≤◌, true, List, length, is_some, Some, None, Option}
use Rattle.source.specs.Names.{Field, find, find_in}
use Rattle.source.specs.State.{Names}
use Rattle.source.specs.Using.{bare, only_if}
use Rattle.grammar.specs.Syntax.{Reference, Bare, Dotted, Value, Literal, Content}

-- a name stands for something
abbrev pub Known : Option ℕ → Type 0
Known o = is_some o ≡ true

-- the number that a known name stands for
abbrev pub the : Option ℕ → ℕ
the (Some n) = n
the None = 0

-- a name that may be declared
pub record New (taken : Option ℕ) (name : List ℕ) : Type 0 where
  pub unused : taken ≡ None
  pub short : length name ≤ 24

-- the field of a name in a header
abbrev pub in_header : List Field → Option ℕ → List ℕ → Option ℕ
in_header fs (Some h) w = find_in fs h w
in_header fs None w = None

-- a bare name is `out`, or the one field of that name among all headers
abbrev pub field : Names → Reference → Option ℕ
field n (Bare w) = bare n w
field n (Dotted h w) = in_header n.fields (find n.headers h) w

-- the choosing field of header h: a header named in front of it must be h
abbrev pub field_of : Names → ℕ → Reference → Option ℕ
field_of n h (Bare w) = find_in n.fields h w
field_of n h (Dotted k w) = in_header n.fields (only_if h (find n.headers k)) w

abbrev pub GoodValue : Names → Value → Type 0
GoodValue n (Literal m) = m < 2 ^ 32
GoodValue n (Content r) = Known (field n r)

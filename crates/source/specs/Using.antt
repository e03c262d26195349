-- Fields where they are used.
use Rattle.std.specs.Prelude.{ℕ, Bool, true, false, cond, List, [], ◌∷◌, ◌++◌, length, Some, None, Option, ◌==◌, nat_lt}
use Rattle.model.specs.Action as action
use Rattle.token.specs.declared.token.Sign.TheVariants.{Open, Semicolon, Comma, Dot, Is, Equals, Less}
use Rattle.token.specs.Tokens.{Token}
use Rattle.source.specs.declared.fault.Fault.TheVariants.{Count}
use Rattle.source.specs.Names.{find, find_in, only}
use Rattle.source.specs.State.{Part, Looks, Sets, Purpose, By, Listed, Target, Tested, Operates, Change, Ask, Names, Seen, with_tables, FieldPhase, Named, Behind, Member, Past, TablePhase, SetsWord, LinesWord, ChoiceValue, Value, InRoute, InTable, InField, InBody}
use Rattle.source.specs.Steps.{Step, go, stop, is_sign, sign, word, known}
use Rattle.source.specs.Declaring.{is_out}
use Rattle.source.specs.Routing.{set_by}
use Rattle.source.specs.Bodies.{settle}

-- a bare name is `out`, or the one field of that name
abbrev pub bare : Names → List ℕ → Option ℕ
bare n w = cond (is_out w) (Some 0) (only n.fields w)

abbrev pub only_if : ℕ → Option ℕ → Option ℕ
only_if h (Some k) = cond (k == h) (Some k) None
only_if h None = None

-- the header that a name stands for: in `by` only the choosing one
abbrev pub header_for : Purpose → Names → List ℕ → Option ℕ
header_for (By h) n w = only_if h (find n.headers w)
header_for (Listed p) n w = find n.headers w
header_for (Target adds at) n w = find n.headers w
header_for (Tested at) n w = find n.headers w
header_for (Operates g) n w = find n.headers w

-- the field that a bare name stands for: in `by` only one of the choosing header
abbrev pub field_for : Purpose → Names → List ℕ → Option ℕ
field_for (By h) n w = find_in n.fields h w
field_for (Listed p) n w = bare n w
field_for (Target adds at) n w = bare n w
field_for (Tested at) n w = bare n w
field_for (Operates g) n w = bare n w

abbrev pub field_named : Purpose → Seen → Token → Step
field_named p d x = word x (λ w. go (InField p (Behind (header_for p d.names w) (field_for p d.names w) x.at)) d)

abbrev pub has_room : Part → Seen → Bool
has_room Looks d = nat_lt (length d.tables.looks) 4
has_room Sets d = nat_lt (length d.tables.sets) 8

-- a list of a table has room for a field
abbrev pub has_room_for : Purpose → Seen → Bool
has_room_for (By h) d = true
has_room_for (Listed p) d = has_room p d
has_room_for (Target adds o) d = true
has_room_for (Tested o) d = true
has_room_for (Operates g) d = true

abbrev pub room_for : Purpose → ℕ → Seen → Step → Step
room_for p at d k = cond (has_room_for p d) k (stop (Count at))

abbrev pub add_listed : Part → ℕ → Seen → Seen
add_listed Looks f d = with_tables (record { looks = d.tables.looks ++ f ∷ []; sets = d.tables.sets; declared = d.tables.declared }) d
add_listed Sets f d = with_tables (record { looks = d.tables.looks; sets = d.tables.sets ++ f ∷ []; declared = d.tables.declared }) d

abbrev pub behind_list : Part → TablePhase
behind_list Looks = SetsWord
behind_list Sets = LinesWord

-- what stands behind a field
abbrev pub past : Purpose → ℕ → Seen → Token → Step
past (By h) f d x = sign Open x (go (InRoute (ChoiceValue h 0)) (set_by h f d))
past (Listed p) f d x = cond (is_sign Comma x.kind) (go (InField (Listed p) Named) (add_listed p f d)) (sign Semicolon x (go (InTable (behind_list p)) (add_listed p f d)))
past (Target adds at) f d x = sign Is x (go (InBody (Value (Change adds f at))) d)
past (Tested at) f d x = cond (is_sign Equals x.kind) (go (InBody (Value (Ask false f at))) d) (sign Less x (go (InBody (Value (Ask true f at))) d))
past (Operates g) f d x = settle g (action.Field f) d x

-- a name in front of a dot is a header's, and else a field's
abbrev pub behind_name : Purpose → Option ℕ → Option ℕ → ℕ → Seen → Token → Step
behind_name p h f at d x = cond (is_sign Dot x.kind) (known at h (λ k. room_for p at d (go (InField p (Member k)) d))) (known at f (λ g. room_for p at d (past p g d x)))

abbrev pub member : Purpose → ℕ → Seen → Token → Step
member p h d x = word x (λ w. known x.at (find_in d.names.fields h w) (λ f. go (InField p (Past f)) d))

abbrev pub in_field : Purpose → FieldPhase → Seen → Token → Step
in_field p Named d x = field_named p d x
in_field p (Behind h f at) d x = behind_name p h f at d x
in_field p (Member h) d x = member p h d x
in_field p (Past f) d x = past p f d x

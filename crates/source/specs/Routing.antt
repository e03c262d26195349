-- The first header, and the choices behind headers.
use Rattle.std.specs.Prelude.{ℕ, ◌+◌, Bool, cond, List, [], ◌∷◌, ◌++◌, length, is_some, Some, None, codes, Option, nat_lt, slice_index_or, slice_set}
use Rattle.token.specs.declared.token.Sign.TheVariants.{Close, Semicolon, Colon}
use Rattle.token.specs.Tokens.{Token}
use Rattle.source.specs.declared.fault.Fault.TheVariants.{Name}
use Rattle.source.specs.Names.{find}
use Rattle.source.specs.State.{Next, Ends, Header, Later, Never, Choice, Seen, with_routes, RoutePhase, FirstName, FirstEnd, AfterName, AfterBy, ChoiceValue, ChoiceColon, ChoiceNext, ChoiceEnd, Item, InRoute, InField, By, Named}
use Rattle.source.specs.Steps.{Step, go, stop, is_sign, says, sign, keyword, word, number, known, room}

abbrev pub set_first : ℕ → Seen → Seen
set_first h d = with_routes (record { first = Some h; by = d.routes.by; choices = d.routes.choices }) d

abbrev pub set_by : ℕ → ℕ → Seen → Seen
set_by h f d = with_routes (record { first = d.routes.first; by = slice_set d.routes.by h (Some f); choices = d.routes.choices }) d

abbrev pub add_choice : Choice → Seen → Seen
add_choice c d = with_routes (record {
  first = d.routes.first;
  by = d.routes.by;
  choices = d.routes.choices ++ c ∷ [];
}) d

abbrev pub choice : ℕ → ℕ → Next → Choice
choice h v n = record { header = h; value = v; next = n }

abbrev pub has_by : ℕ → Seen → Bool
has_by h d = is_some (slice_index_or d.routes.by h None)

abbrev pub first_name : Seen → Token → Step
first_name d x = word x (λ w. known x.at (find d.names.headers w) (λ h. go (InRoute FirstEnd) (set_first h d)))

abbrev pub after_name : Seen → Token → Step
after_name d x = word x (λ w. known x.at (find d.names.headers w) (λ h. cond (has_by h d) (stop (Name x.at)) (go (InRoute (AfterBy h)) d)))

-- a choice, or the end of the choices
abbrev pub choice_value : ℕ → ℕ → Seen → Token → Step
choice_value h n d x = cond (is_sign Close x.kind) (go Item d)
    (number x (λ v. room x.at n 8 (λ k. go (InRoute (ChoiceColon h (k + 1) v)) d)))

-- a header that is not declared yet may be declared later, if its name is not too long
abbrev pub later : List ℕ → ℕ → Next
later w at = cond (nat_lt 24 (length w)) (Never at) (Later w at)

-- a header that is declared must come behind the choosing one
abbrev pub chosen : ℕ → ℕ → ℕ → List ℕ → ℕ → Option ℕ → Seen → Step
chosen h n v w at (Some k) d = cond (nat_lt h k) (go (InRoute (ChoiceEnd h n)) (add_choice (choice h v (Header k)) d)) (stop (Name at))
chosen h n v w at None d = go (InRoute (ChoiceEnd h n)) (add_choice (choice h v (later w at)) d)

abbrev pub choice_next : ℕ → ℕ → ℕ → Seen → Token → Step
choice_next h n v d x = cond (says (codes "end") x.kind) (go (InRoute (ChoiceEnd h n)) (add_choice (choice h v Ends) d))
    (word x (λ w. chosen h n v w x.at (find d.names.headers w) d))

abbrev pub in_route : RoutePhase → Seen → Token → Step
in_route FirstName d x = first_name d x
in_route FirstEnd d x = sign Semicolon x (go Item d)
in_route AfterName d x = after_name d x
in_route (AfterBy h) d x = keyword (codes "by") x (go (InField (By h) Named) d)
in_route (ChoiceValue h n) d x = choice_value h n d x
in_route (ChoiceColon h n v) d x = sign Colon x (go (InRoute (ChoiceNext h n v)) d)
in_route (ChoiceNext h n v) d x = choice_next h n v d x
in_route (ChoiceEnd h n) d x = sign Semicolon x (go (InRoute (ChoiceValue h n)) d)

-- The first header, and the choices behind headers.
use Rattle.std.specs.Prelude.{◌≡◌, ℕ, ◌^◌, ◌<◌, ◌≤◌, ◌≢◌, List, [], ◌∷◌, ◌++◌, map, length, Some, None, codes, Option, slice_index_or, slice_set}
use Rattle.source.specs.Names.{Entry, find}
use Rattle.source.specs.State.{Next, Ends, Header, Later, Never, Choice}
use Rattle.source.specs.Routing.{later}
use Rattle.grammar.specs.Syntax.{Reference, Onward, Finish, Towards, Case}
use Rattle.grammar.specs.Lookup.{Known, the, field_of}
use Rattle.grammar.specs.Program.{Program}

pub record GoodFirst (p : Program) (w : List ℕ) : Type 0 where
  pub once : p.routes.first ≡ None
  pub known : Known (find p.names.headers w)

abbrev pub set_first : List ℕ → Program → Program
set_first w p = record {
  names = p.names;
  routes = record { first = Some (the (find p.names.headers w)); by = p.routes.by; choices = p.routes.choices };
  tables = p.tables;
  done = p.done;
}

-- a name in a choice stands for a header that is declared already, or for one to come
abbrev pub next_by : Option ℕ → List ℕ → ℕ → Next
next_by (Some k) w o = Header k
next_by None w o = later w o

abbrev pub next_of : List Entry → Onward → Next
next_of hs Finish = Ends
next_of hs (Towards w o) = next_by (find hs w) w o

abbrev pub choice_of : List Entry → ℕ → Case → Choice
choice_of hs h c = record { header = h; value = c.value; next = next_of hs c.next }

abbrev pub choices_of : List Entry → ℕ → List Case → List Choice
choices_of hs h cs = map (choice_of hs h) cs

-- a header that is declared already must come behind the choosing header h, and `end` is no name here
pub record GoodTowards (hs : List Entry) (h : ℕ) (w : List ℕ) : Type 0 where
  pub name : w ≢ codes "end"
  pub behind : (k : ℕ) → find hs w ≡ Some k → h < k

abbrev pub GoodOnward : List Entry → ℕ → Onward → Type 0
GoodOnward hs h Finish = Unit {0}
GoodOnward hs h (Towards w o) = GoodTowards hs h w

pub record GoodCase (hs : List Entry) (h : ℕ) (c : Case) : Type 0 where
  pub small : c.value < 2 ^ 32
  pub next : GoodOnward hs h c.next

abbrev pub GoodCases : List Entry → ℕ → List Case → Type 0
GoodCases hs h [] = Unit {0}
GoodCases hs h (c ∷ cs) = GoodCase hs h c × GoodCases hs h cs

-- h: the number of the choosing header
pub record GoodAfterAt (p : Program) (h : ℕ) (r : Reference) (cs : List Case) : Type 0 where
  pub once : slice_index_or p.routes.by h None ≡ None
  pub by : Known (field_of p.names h r)
  pub cases : GoodCases p.names.headers h cs
  pub few : length cs ≤ 8

pub record GoodAfter (p : Program) (w : List ℕ) (r : Reference) (cs : List Case) : Type 0 where
  pub known : Known (find p.names.headers w)
  pub good : GoodAfterAt p (the (find p.names.headers w)) r cs

abbrev pub add_choices_at : ℕ → Reference → List Case → Program → Program
add_choices_at h r cs p = record {
  names = p.names;
  routes = record {
    first = p.routes.first;
    by = slice_set p.routes.by h (Some (the (field_of p.names h r)));
    choices = p.routes.choices ++ choices_of p.names.headers h cs;
  };
  tables = p.tables;
  done = p.done;
}

abbrev pub add_choices : List ℕ → Reference → List Case → Program → Program
add_choices w r cs p = add_choices_at (the (find p.names.headers w)) r cs p

-- a choice names the end, or a header that was declared somewhere
abbrev pub Arrives : List Entry → Next → Type 0
Arrives hs Ends = Unit {0}
Arrives hs (Header k) = Unit {0}
Arrives hs (Later w o) = Known (find hs w)
Arrives hs (Never o) = ⊥

abbrev pub AllArrive : List Entry → List Choice → Type 0
AllArrive hs [] = Unit {0}
AllArrive hs (c ∷ cs) = Arrives hs c.next × AllArrive hs cs

-- Which tokens decide a fault.
use Rattle.std.specs.Prelude.{◌≡◌, ℕ, List, [], ◌∷◌, ◌++◌, Some, None, Option}
use Rattle.token.specs.Tokens.{End, Token, tokens}
use Rattle.source.specs.declared.fault.Fault.{Fault}
use Rattle.source.specs.declared.fault.Fault.TheVariants.{Unawaited, Name, Range, Header, Depth, Twice, Count, Memory}
use Rattle.source.specs.State.{Item, Seen, nothing}
use Rattle.source.specs.Reading.{unnamed, run, refused, read_source}

-- the offset at which a fault is found; want of memory is found nowhere
abbrev pub offset : Fault → Option ℕ
offset (Unawaited at) = Some at
offset (Name at) = Some at
offset (Range at) = Some at
offset (Header at) = Some at
offset (Depth at) = Some at
offset (Twice at) = Some at
offset (Count at) = Some at
offset Memory = None

-- the last of some tokens; of none the one before them, if there is one
unfoldable pub last_behind : Option Token → List Token → Option Token
last_behind o [] = o
last_behind o (x ∷ xs) = last_behind (Some x) xs

abbrev pub last_of : List Token → Option Token
last_of ts = last_behind None ts

-- one of some tokens stands at an offset
pub record Among (ts : List Token) (at : ℕ) : Type 0 where
  pub front : List Token
  pub token : Token
  pub back : List Token
  pub split : ts ≡ front ++ (token ∷ back)
  pub is : token.at ≡ at

-- all items are read, the end is met, and the fault is that of the first choice whose header was never declared, at the name in that choice
pub record Undeclared (before : List Token) (last : Token) (f : Fault) : Type 0 where
  pub ends : last.kind ≡ End
  pub seen : Seen
  pub whole : (others : List Token) → run Item nothing (before ++ others) ≡ run Item seen others
  pub at : ℕ
  pub choice : unnamed seen.names.headers seen.routes.choices ≡ Some at
  pub fault : f ≡ Name at
  pub name : Among before at

-- where a fault stands: at the last token that was read; at the one right before it, a field's name, of which only the token behind it says whether
-- it is a header's; or at the name of a choice, if only the end says that no such header is declared
pub data Stands (before : List Token) (last : Token) (f : Fault) : Type 0 where
  at_the_last : offset f ≡ Some last.at → Stands before last f
  at_the_one_before : (x : Token) → last_of before ≡ Some x → offset f ≡ Some x.at → Stands before last f
  at_a_choice : Undeclared before last f → Stands before last f

-- the tokens up to the last one give the fault by themselves, whatever stands behind them
pub record Decided (ts : List Token) (f : Fault) : Type 0 where
  pub before : List Token
  pub last : Token
  pub after : List Token
  pub split : ts ≡ before ++ (last ∷ after)
  pub stands : Stands before last f
  pub decides : (others : List Token) → run Item nothing (before ++ (last ∷ others)) ≡ refused f

-- a fault is decided by the tokens up to the one behind it
abbrev pub FaultsAreDecided : Type 0
FaultsAreDecided = (source : List ℕ) (f : Fault) → read_source source ≡ refused f → Decided (tokens source) f

-- a source whose tokens agree so far with those of a refused source is refused alike
pub record Alike (source : List ℕ) (f : Fault) : Type 0 where
  pub before : List Token
  pub last : Token
  pub after : List Token
  pub itself : tokens source ≡ before ++ (last ∷ after)
  pub stands : Stands before last f
  pub alike : (other : List ℕ) (others : List Token) → tokens other ≡ before ++ (last ∷ others) → read_source other ≡ refused f

abbrev pub RefusedAlike : Type 0
RefusedAlike = (source : List ℕ) (f : Fault) → read_source source ≡ refused f → Alike source f

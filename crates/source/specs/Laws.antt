-- Laws of reading.
use Rattle.std.specs.Prelude.{◌≡◌, ℕ, List, ◌∷◌, ◌++◌}
use Rattle.token.specs.Tokens.{Token, tokens}
use Rattle.source.specs.declared.fault.Fault.{Fault}
use Rattle.source.specs.State.{Phase, Item, Seen, nothing}
use Rattle.source.specs.Reading.{run, refused, read_source}

-- some tokens at the front give the fault by themselves, whatever stands behind them
pub record Decided (p : Phase) (d : Seen) (ts : List Token) (f : Fault) : Type 0 where
  pub before : List Token
  pub last : Token
  pub after : List Token
  pub split : ts ≡ before ++ (last ∷ after)
  pub decides : (others : List Token) → run p d (before ++ (last ∷ others)) ≡ refused f

-- a fault is decided by the tokens up to the one at which reading stopped: no token behind it changes the answer
abbrev pub FaultsAreDecided : Type 0
FaultsAreDecided = (source : List ℕ) (f : Fault) → read_source source ≡ refused f → Decided Item nothing (tokens source) f

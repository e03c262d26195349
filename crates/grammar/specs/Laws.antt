-- The laws of reading: sources are read by the grammar.
use Rattle.std.specs.Prelude.{◌≡◌, ℕ, false, ◌↔◌, List, [], ◌∷◌}
use Rattle.token.specs.Tokens.{End, Token, tokens}
use Rattle.source.specs.State.{Seen, Item, nothing}
use Rattle.source.specs.Steps.{is_end}
use Rattle.source.specs.Reading.{run, taken, read_source}
use Rattle.grammar.specs.Grammar.{Says}

-- the end is the last token, and only the last
pub data Ended : List Token → Type 0 where
  last : {x : Token} → x.kind ≡ End → Ended (x ∷ [])
  more : {x : Token} {xs : List Token} → is_end x.kind ≡ false → Ended xs → Ended (x ∷ xs)

-- what the grammar says is read, and as that program
abbrev pub WrittenIsRead : Type 0
WrittenIsRead = (ts : List Token) (d : Seen) → Says ts d → run Item nothing ts ≡ taken d

-- what is read is what the grammar says
abbrev pub ReadIsWritten : Type 0
ReadIsWritten = (ts : List Token) (d : Seen) → Ended ts → run Item nothing ts ≡ taken d → Says ts d

-- the tokens of a source end with the end
abbrev pub TokensEnd : Type 0
TokensEnd = (source : List ℕ) → Ended (tokens source)

-- a source is read as a program if and only if the grammar says so
abbrev pub ReadsTheGrammar : Type 0
ReadsTheGrammar = (source : List ℕ) (d : Seen) → read_source source ≡ taken d ↔ Says (tokens source) d

-- the grammar says one program at most of a source
abbrev pub SaysOne : Type 0
SaysOne = (ts : List Token) (d e : Seen) → Says ts d → Says ts e → d ≡ e

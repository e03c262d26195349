-- What the code's tokens stand for.
use Rattle.std.specs.Prelude.{ℕ, ◌^◌, min, Some, None, Option}
use Rattle.token.specs.declared.token.Kind.{Kind}
use Rattle.token.specs.declared.token.Kind.TheVariants as kind
use Rattle.token.specs.declared.token.Token.{Token}
use Rattle.token.specs.declared.token.Lead.{Lead}
use Rattle.token.specs.Tokens as tokens

abbrev pub kind_of : Kind → tokens.Kind
kind_of (kind.Word w) = tokens.Word w.now
kind_of (kind.Number n) = tokens.Number n
kind_of kind.Huge = tokens.Huge
kind_of (kind.Sign s) = tokens.Mark s
kind_of kind.Other = tokens.Other
kind_of kind.End = tokens.End

abbrev pub token_of : Token → tokens.Token
token_of x = tokens.token (kind_of x.kind) x.at

abbrev pub lead_of : Lead → tokens.Lead
lead_of x = record { kind = kind_of x.kind; width = x.width }

-- a number, where all from 2 to the 32nd on count as that one
abbrev pub capped : Option ℕ → Option ℕ
capped (Some n) = Some (min n (2 ^ 32))
capped None = None

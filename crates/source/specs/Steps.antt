-- What a token is asked for, and how reading goes on.
use Rattle.std.specs.Prelude.{ℕ, ◌^◌, Bool, true, false, cond, List, length, Some, None, Option, ◌==◌, nat_lt}
use Rattle.std.specs.Str.{bytes_eq}
use Rattle.token.specs.declared.token.Sign.{Sign}
use Rattle.token.specs.declared.token.Sign.TheVariants.{Open, Close, Semicolon, Colon, Comma, Dot, Is, Equals, Less}
use Rattle.token.specs.Tokens.{Kind, Word, Number, Huge, Mark, Other, End, Token}
use Rattle.source.specs.declared.fault.Fault.{Fault}
use Rattle.source.specs.declared.fault.Fault.TheVariants.{Unawaited, Name, Range, Count}
use Rattle.source.specs.State.{Phase, Seen}

abbrev pub place : Sign → ℕ
place Open = 0
place Close = 1
place Semicolon = 2
place Colon = 3
place Comma = 4
place Dot = 5
place Is = 6
place Equals = 7
place Less = 8

abbrev pub is_sign : Sign → Kind → Bool
is_sign s (Word w) = false
is_sign s (Number n) = false
is_sign s Huge = false
is_sign s (Mark t) = place t == place s
is_sign s Other = false
is_sign s End = false

abbrev pub is_end : Kind → Bool
is_end (Word w) = false
is_end (Number n) = false
is_end Huge = false
is_end (Mark t) = false
is_end Other = false
is_end End = true

-- whether a token is this word
abbrev pub says : List ℕ → Kind → Bool
says v (Word w) = bytes_eq w v
says v (Number n) = false
says v Huge = false
says v (Mark t) = false
says v Other = false
says v End = false

abbrev pub word_of : Kind → Option (List ℕ)
word_of (Word w) = Some w
word_of (Number n) = None
word_of Huge = None
word_of (Mark t) = None
word_of Other = None
word_of End = None

-- a number of 2 to the 32nd or more is a number too
abbrev pub number_of : Kind → Option ℕ
number_of (Word w) = None
number_of (Number n) = Some n
number_of Huge = Some (2 ^ 32)
number_of (Mark t) = None
number_of Other = None
number_of End = None

-- reading goes on in a phase, or stops at a fault
pub data Step : Type 0 where
  go : Phase → Seen → Step
  stop : Fault → Step

abbrev pub or_unawaited : {X : Type 0} → ℕ → Option X → (X → Step) → Step
or_unawaited at (Some x) k = k x
or_unawaited at None k = stop (Unawaited at)

-- a sign, a word of its own, any word, or a number is awaited
abbrev pub sign : Sign → Token → Step → Step
sign s x k = cond (is_sign s x.kind) k (stop (Unawaited x.at))

abbrev pub keyword : List ℕ → Token → Step → Step
keyword v x k = cond (says v x.kind) k (stop (Unawaited x.at))

abbrev pub word : Token → (List ℕ → Step) → Step
word x k = or_unawaited x.at (word_of x.kind) k

abbrev pub number : Token → (ℕ → Step) → Step
number x k = or_unawaited x.at (number_of x.kind) (λ n. cond (nat_lt n (2 ^ 32)) (k n) (stop (Range x.at)))

-- a name that is used must stand for something
abbrev pub known : {X : Type 0} → ℕ → Option X → (X → Step) → Step
known at (Some x) k = k x
known at None k = stop (Name at)

-- a name that is declared must not be taken, and must not be too long
abbrev pub or_range : {X : Type 0} → ℕ → Option X → (X → Step) → Step
or_range at (Some x) k = k x
or_range at None k = stop (Range at)

abbrev pub short : List ℕ → Option (List ℕ)
short w = cond (nat_lt 24 (length w)) None (Some w)

abbrev pub fresh : Bool → ℕ → List ℕ → (List ℕ → Step) → Step
fresh taken at w k = cond taken (stop (Name at)) (or_range at (short w) k)

-- one more of what there are n of already, if that is below the limit
abbrev pub below : ℕ → ℕ → Option ℕ
below n limit = cond (nat_lt n limit) (Some n) None

abbrev pub or_count : {X : Type 0} → ℕ → Option X → (X → Step) → Step
or_count at (Some x) k = k x
or_count at None k = stop (Count at)

abbrev pub room : (at n limit : ℕ) → (ℕ → Step) → Step
room at n limit k = or_count at (below n limit) k

-- How a fault is answered: its code, and the offset of the token at which it is found.
use Rattle.std.specs.Prelude.{ℕ, List, codes}
use Rattle.source.specs.declared.fault.Fault.{Fault}
use Rattle.source.specs.declared.fault.Fault.TheVariants.{Unawaited, Name, Range, Header, Depth, Twice, Count, Memory}
use Rattle.codes.specs.Codes.{Told}

abbrev answer : ℕ → ℕ → Told
answer code at = record { code = code; offset = at }

abbrev pub answer_of : Fault → Told
answer_of (Unawaited at) = answer 2 at
answer_of (Name at) = answer 3 at
answer_of (Range at) = answer 4 at
answer_of (Header at) = answer 5 at
answer_of (Depth at) = answer 7 at
answer_of (Twice at) = answer 8 at
answer_of (Count at) = answer 9 at
answer_of Memory = answer 255 0

-- what is wrong, in words
abbrev pub words_of : Fault → List ℕ
words_of (Unawaited at) = codes "this is not awaited here"
words_of (Name at) = codes "this name is unknown here, ambiguous, or taken"
words_of (Range at) = codes "this number is out of its range, or this name is longer than 24 characters"
words_of (Header at) = codes "this header has no bits, no whole bytes, or more than 32 bytes"
words_of (Depth at) = codes "this block is the ninth inside one another"
words_of (Twice at) = codes "this table may have been applied before on a path to here"
words_of (Count at) = codes "this is one too many, or the source ends with no first or no do"
words_of Memory = codes "there is not enough memory"

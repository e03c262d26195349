-- How a source is cut into tokens.
use Rattle.std.specs.Prelude.{ℕ, zero, suc, ◌+◌, ◌-◌, ◌*◌, ◌^◌, Bool, false, cond, not, ◌&&◌, ◌||◌, List, [], ◌∷◌, length, take, drop, Some, None, Option, ◌==◌, nat_le, nat_lt, slice_index}
use Rattle.token.specs.declared.token.Sign.{Sign}
use Rattle.token.specs.declared.token.Sign.TheVariants.{Open, Close, Semicolon, Colon, Comma, Dot, Is, Equals, Less}

-- a word, a number below 2 to the 32nd, a larger number, a sign, a byte that is none of these, or the end
pub data Kind : Type 0 where
  Word : List ℕ → Kind
  Number : ℕ → Kind
  Huge : Kind
  Mark : Sign → Kind
  Other : Kind
  End : Kind

-- bytes that are read as long as they go: the letters and digits of a run, or all of a comment's line
pub data Stretch : Type 0 where
  Run : Stretch
  Line : Stretch

-- a token and its offset
pub record Token : Type 0 where
  pub kind : Kind
  pub at : ℕ

abbrev pub token : Kind → ℕ → Token
token k i = record { kind = k; at = i }

abbrev pub within : ℕ → ℕ → ℕ → Bool
within low high b = nat_le low b && nat_le b high

-- space, tab, LF and CR
abbrev pub is_space : ℕ → Bool
is_space b = b == 32 || (b == 9 || (b == 10 || b == 13))

-- digits, and letters of both cases
abbrev pub is_alphanumeric : ℕ → Bool
is_alphanumeric b = within 48 57 b || (within 97 122 b || within 65 90 b)

-- the value of a digit, decimal or hexadecimal; of any other byte 16
abbrev pub digit : ℕ → ℕ
digit b = cond (within 48 57 b) (b - 48) (cond (within 97 102 b) (b - 87) (cond (within 65 70 b) (b - 55) 16))

-- whether a byte belongs to a stretch: a comment's line goes up to the next LF
abbrev pub belongs : Stretch → ℕ → Bool
belongs Run b = is_alphanumeric b
belongs Line b = not (b == 10)

-- how many bytes at the front belong to a stretch
unfoldable pub front : Stretch → List ℕ → ℕ
front s [] = zero
front s (b ∷ bs) = cond (belongs s b) (suc (front s bs)) zero

abbrev pub begins : ℕ → List ℕ → Bool
begins x [] = false
begins x (b ∷ bs) = b == x

-- how many bytes the white space or the comment at the front has: one, all of the line, or none
abbrev pub gap : List ℕ → ℕ
gap [] = 0
gap (b ∷ bs) = cond (is_space b) 1 (cond (b == 47 && begins 47 bs) (front Line (b ∷ bs)) 0)

-- the number that digits of a base stand for behind those of n; none if they are not all digits
unfoldable pub value_behind : (base n : ℕ) → List ℕ → Option ℕ
value_behind base n [] = Some n
value_behind base n (b ∷ bs) = cond (nat_lt (digit b) base) (value_behind base (n * base + digit b) bs) None

abbrev pub decimal : List ℕ → Option ℕ
decimal run = value_behind 10 0 run

-- 0x, and at least one digit
abbrev pub hexadecimal : List ℕ → Option ℕ
hexadecimal run = cond (nat_lt 2 (length run) && (slice_index run 0 == 48 && slice_index run 1 == 120)) (value_behind 16 0 (drop 2 run)) None

-- a number, or what stands there if it is none
abbrev pub number : Option ℕ → Kind → Kind
number (Some n) k = cond (nat_lt n (2 ^ 32)) (Number n) Huge
number None k = k

-- a run is a decimal number, a hexadecimal number, or a word
abbrev pub run_kind : List ℕ → Kind
run_kind run = number (decimal run) (number (hexadecimal run) (Word run))

-- the sign of one byte
abbrev pub single : ℕ → Option Sign
single b = cond (b == 123) (Some Open) (cond (b == 125) (Some Close) (cond (b == 59) (Some Semicolon) (cond (b == 58) (Some Colon)
    (cond (b == 44) (Some Comma) (cond (b == 46) (Some Dot) (cond (b == 61) (Some Is) (cond (b == 60) (Some Less) None)))))))

abbrev pub mark : Option Sign → Kind
mark (Some s) = Mark s
mark None = Other

-- the kind of a token, and how many bytes it has
pub record Lead : Type 0 where
  pub kind : Kind
  pub width : ℕ

-- the token at the front, where no white space and no comment stands: two = that touch are one sign
abbrev pub lead : List ℕ → Lead
lead [] = record { kind = End; width = 0 }
lead (b ∷ bs) =
    cond (is_alphanumeric b) (record { kind = run_kind (take (front Run (b ∷ bs)) (b ∷ bs)); width = front Run (b ∷ bs) })
    (cond (b == 61 && begins 61 bs) (record { kind = Mark Equals; width = 2 }) (record { kind = mark (single b); width = 1 }))

-- the tokens from offset i on, behind the next k bytes, which belong to a token or a comment before
unfoldable pub tokens_behind : (k i : ℕ) → List ℕ → List Token
tokens_behind k i [] = token End i ∷ []
tokens_behind (suc k) i (b ∷ bs) = tokens_behind k (i + 1) bs
tokens_behind zero i (b ∷ bs) =
    cond (nat_lt 0 (gap (b ∷ bs))) (tokens_behind (gap (b ∷ bs) - 1) (i + 1) bs)
    (token (lead (b ∷ bs)).kind i ∷ tokens_behind ((lead (b ∷ bs)).width - 1) (i + 1) bs)

-- the tokens from offset i on
abbrev pub tokens_from : ℕ → List ℕ → List Token
tokens_from i bs = tokens_behind 0 i bs

-- the tokens of a source; the end is the last
abbrev pub tokens : List ℕ → List Token
tokens bs = tokens_from 0 bs

-- what stands behind a token; behind the end nothing
abbrev pub behind : Kind → List Token → List Token
behind (Word w) ts = ts
behind (Number n) ts = ts
behind Huge ts = ts
behind (Mark s) ts = ts
behind Other ts = ts
behind End ts = []

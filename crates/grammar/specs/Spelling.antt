-- How a source is spelt: for each form of the syntax its tokens, in front of those that follow it.
use Rattle.std.specs.Prelude.{◌≡◌, ℕ, List, [], ◌∷◌, Some, None, codes, Option}
use Rattle.token.specs.declared.token.Sign.{Sign}
use Rattle.token.specs.declared.token.Sign.TheVariants.{Open, Close, Semicolon, Colon, Comma, Dot, Is, Equals, Less}
use Rattle.token.specs.Tokens.{Kind, Word, Number, Mark, End, Token}
use Rattle.grammar.specs.Syntax.{Reference, Bare, Dotted, Value, Literal, Content, Verb, Set, Add, Relation, Same, Below, Statements, Empty, Alter, Use, When, Either, Declared, Onward, Finish, Towards, Case, Item, HeaderItem, FirstItem, AfterItem, TableItem, DoItem}

-- a token of a kind, at any offset or at one
pub record Piece : Type 0 where
  pub kind : Kind
  pub at : Option ℕ

abbrev pub piece : Kind → Piece
piece k = record { kind = k; at = None }

abbrev pub piece_at : ℕ → Kind → Piece
piece_at o k = record { kind = k; at = Some o }

abbrev pub word : List ℕ → Piece
word w = piece (Word w)

abbrev pub word_at : ℕ → List ℕ → Piece
word_at o w = piece_at o (Word w)

abbrev pub number : ℕ → Piece
number n = piece (Number n)

abbrev pub sign : Sign → Piece
sign s = piece (Mark s)

-- field = name | name "." name
abbrev pub reference : Reference → List Piece → List Piece
reference (Bare w) ks = word w ∷ ks
reference (Dotted h w) ks = word h ∷ sign Dot ∷ word w ∷ ks

-- fields = [ field { "," field } ]
abbrev pub further_references : List Reference → List Piece → List Piece
further_references [] ks = ks
further_references (r ∷ rs) ks = sign Comma ∷ reference r (further_references rs ks)

abbrev pub references : List Reference → List Piece → List Piece
references [] ks = ks
references (r ∷ rs) ks = reference r (further_references rs ks)

-- operand = number | field
abbrev pub value : Value → List Piece → List Piece
value (Literal n) ks = number n ∷ ks
value (Content r) ks = reference r ks

abbrev pub verb : Verb → List ℕ
verb Set = codes "set"
verb Add = codes "add"

abbrev pub relation : Relation → Sign
relation Same = Equals
relation Below = Less

-- { statement }, where statement = ( "set" | "add" ) field "=" operand ";" | "apply" name ";" | "if" field ( "==" | "<" ) operand block [ "else" block ]
-- and block = "{" { statement } "}"
abbrev pub statements : Statements → List Piece → List Piece
statements Empty ks = ks
statements (Alter o v r x rest) ks = word_at o (verb v) ∷ reference r (sign Is ∷ value x (sign Semicolon ∷ statements rest ks))
statements (Use o w rest) ks = word_at o (codes "apply") ∷ word w ∷ sign Semicolon ∷ statements rest ks
statements (When o r q x block rest) ks =
    word_at o (codes "if") ∷ reference r (sign (relation q) ∷ value x (sign Open ∷ statements block (sign Close ∷ statements rest ks)))
statements (Either o r q x block p other rest) ks =
    word_at o (codes "if") ∷ reference r (sign (relation q) ∷ value x (sign Open ∷ statements block (sign Close ∷
    word_at p (codes "else") ∷ sign Open ∷ statements other (sign Close ∷ statements rest ks))))

-- { name number ";" }
abbrev pub declared : List Declared → List Piece → List Piece
declared [] ks = ks
declared (f ∷ fs) ks = word f.name ∷ number f.width ∷ sign Semicolon ∷ declared fs ks

-- "end" | name
abbrev pub onward : Onward → List Piece → List Piece
onward Finish ks = word (codes "end") ∷ ks
onward (Towards w o) ks = word_at o w ∷ ks

-- { number ":" ( "end" | name ) ";" }
abbrev pub cases : List Case → List Piece → List Piece
cases [] ks = ks
cases (c ∷ cs) ks = number c.value ∷ sign Colon ∷ onward c.next (sign Semicolon ∷ cases cs ks)

-- item = "header" name "{" { name number ";" } "}" | "first" name ";" | "after" name "by" field "{" { number ":" ( "end" | name ) ";" } "}"
--      | "table" name "{" "look" fields ";" "sets" fields ";" "lines" number ";" "}" | "do" block
abbrev pub item : Item → List Piece → List Piece
item (HeaderItem w fs) ks = word (codes "header") ∷ word w ∷ sign Open ∷ declared fs (sign Close ∷ ks)
item (FirstItem w) ks = word (codes "first") ∷ word w ∷ sign Semicolon ∷ ks
item (AfterItem w r cs) ks = word (codes "after") ∷ word w ∷ word (codes "by") ∷ reference r (sign Open ∷ cases cs (sign Close ∷ ks))
item (TableItem w looks sets n) ks =
    word (codes "table") ∷ word w ∷ sign Open ∷
    word (codes "look") ∷ references looks (sign Semicolon ∷
    word (codes "sets") ∷ references sets (sign Semicolon ∷
    word (codes "lines") ∷ number n ∷ sign Semicolon ∷ sign Close ∷ ks))
item (DoItem s o) ks = word (codes "do") ∷ sign Open ∷ statements s (piece_at o (Mark Close) ∷ ks)

-- source = { item }, and the end
abbrev pub source : List Item → List Piece
source [] = piece End ∷ []
source (i ∷ is) = item i (source is)

abbrev pub At : Option ℕ → ℕ → Type 0
At None i = Unit {0}
At (Some o) i = i ≡ o

-- tokens are those of a spelling
pub data Fits : List Piece → List Token → Type 0 where
  nil : Fits [] []
  one : {k : Piece} {x : Token} {ks : List Piece} {xs : List Token} (kind : x.kind ≡ k.kind) (at : At k.at x.at) → Fits ks xs → Fits (k ∷ ks) (x ∷ xs)

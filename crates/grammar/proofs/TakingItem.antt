-- An item that was read.
use Rattle.std.proofs.Common.{◌≡◌, ℕ, ◌<◌, false, ◌≢◌, List, length, is_some, Some, None, Option, sym, refl, ap, ◌∙◌, arith}
use Rattle.std.specs.Str.{bytes_eq}
use Rattle.std.proofs.lemmas.Bool.{true≢false}
use Rattle.std.proofs.lemmas.Slice.Eq.{bytes_eq-Decides}
use Rattle.token.specs.Tokens.{Token}
use Rattle.source.specs.State.{Seen, Item}
use Rattle.source.specs.Steps.{go}
use Rattle.grammar.specs.Syntax as syntax
use Rattle.grammar.specs.Spelling as spelling
use Rattle.grammar.specs.Spelling.{Piece, Fits}
use Rattle.grammar.specs.Lookup.{Known, the}
use Rattle.grammar.specs.Program.{Program, seen}
use Rattle.grammar.specs.Grammar.{GoodItem, add_item}
use Rattle.grammar.proofs.Taking.{After}

-- the tokens begin with a good item, and what stands behind it is read to its end
pub record ItemRead (p : Program) (ts : List Token) (g : Seen) : Type 0 where
  pub item : syntax.Item
  pub rest : List Token
  pub good : GoodItem p item
  pub spelt : (js : List Piece) → Fits js rest → Fits (spelling.item item js) ts
  pub less : length rest < length ts
  pub takes : After (go Item (seen (add_item item p))) rest g

pub is_none : {X : Type 0} (o : Option X) → is_some o ≡ false → o ≡ None
is_none (Some x) e = absurd (true≢false e)
is_none None e = refl

pub is_known : (o : Option ℕ) (n : ℕ) → o ≡ Some n → Known o
is_known o n e = ap is_some e

pub is_the : (o : Option ℕ) (n : ℕ) → o ≡ Some n → the o ≡ n
is_the o n e = ap the e

pub another : (w v : List ℕ) → bytes_eq w v ≡ false → w ≢ v
another w v e q = true≢false (sym ((bytes_eq-Decides w v).1 q) ∙ e)

pub fewer : (a b c : ℕ) → a < b → b < c → a < c
fewer a b c h k = omega arith

-- The sources that are read, and the program of each.
use Rattle.std.specs.Prelude.{◌≡◌, true, List, [], ◌∷◌, is_some}
use Rattle.token.specs.Tokens.{Token}
use Rattle.source.specs.State.{Seen}
use Rattle.grammar.specs.Syntax as syntax
use Rattle.grammar.specs.Syntax.{HeaderItem, FirstItem, AfterItem, TableItem, DoItem}
use Rattle.grammar.specs.Spelling.{source, Fits}
use Rattle.grammar.specs.Program.{Program, empty, seen}
use Rattle.grammar.specs.Headers.{GoodHeader, add_header}
use Rattle.grammar.specs.Routes.{GoodFirst, set_first, GoodAfter, add_choices, AllArrive}
use Rattle.grammar.specs.Tables.{GoodTable, add_table}
use Rattle.grammar.specs.Statements.{GoodDo, set_done}

-- what is asked of an item, behind those that declared p
abbrev pub GoodItem : Program → syntax.Item → Type 0
GoodItem p (HeaderItem w fs) = GoodHeader p.names w fs
GoodItem p (FirstItem w) = GoodFirst p w
GoodItem p (AfterItem w r cs) = GoodAfter p w r cs
GoodItem p (TableItem w looks sets lines) = GoodTable p.names w looks sets lines
GoodItem p (DoItem s end) = GoodDo p s

-- what is declared behind an item
abbrev pub add_item : syntax.Item → Program → Program
add_item (HeaderItem w fs) p = add_header w fs p
add_item (FirstItem w) p = set_first w p
add_item (AfterItem w r cs) p = add_choices w r cs p
add_item (TableItem w looks sets lines) p = add_table w looks sets lines p
add_item (DoItem s end) p = set_done s end p

-- names are looked up among what the items before declare
abbrev pub GoodItems : Program → List syntax.Item → Type 0
GoodItems p [] = Unit {0}
GoodItems p (i ∷ is) = GoodItem p i × GoodItems (add_item i p) is

abbrev pub add_items : List syntax.Item → Program → Program
add_items [] p = p
add_items (i ∷ is) p = add_items is (add_item i p)

-- what is asked of all items together
pub record Complete (p : Program) : Type 0 where
  pub choices : AllArrive p.names.headers p.routes.choices
  pub first : is_some p.routes.first ≡ true
  pub done : is_some p.done ≡ true

-- the tokens are those of a source that is good, and d is the program that it stands for
pub record Says (ts : List Token) (d : Seen) : Type 0 where
  pub items : List syntax.Item
  pub spelt : Fits (source items) ts
  pub good : GoodItems empty items
  pub complete : Complete (add_items items empty)
  pub means : d ≡ seen (add_items items empty)

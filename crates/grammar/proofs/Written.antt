-- What is written by the grammar is read.
use Rattle.std.proofs.Common.{◌≡◌, ℕ, Bool, true, cond, ◌&&◌, List, [], ◌∷◌, is_some, Some, None, Option, sym, refl, ap, ◌∙◌, subst}
use Rattle.std.proofs.lemmas.Bool.{cond-true, and_from}
use Rattle.token.specs.Tokens.{Kind, End, Token, token}
use Rattle.source.specs.Names.{Entry, find}
use Rattle.source.specs.State.{Next, Ends, Header, Later, Never, Choice, Seen, Item, nothing}
use Rattle.source.specs.Steps.{go, is_end}
use Rattle.source.specs.Reading.{missing, or_else, unnamed, complete, step, Outcome, taken, onward, run}
use Rattle.grammar.specs.Syntax as syntax
use Rattle.grammar.specs.Syntax.{HeaderItem, FirstItem, AfterItem, TableItem, DoItem}
use Rattle.grammar.specs.Spelling.{Piece, piece, item, source, Fits, one}
use Rattle.grammar.specs.Program.{Program, Done, body_of, empty, seen}
use Rattle.grammar.specs.Routes.{Arrives, AllArrive}
use Rattle.grammar.specs.Grammar.{GoodItem, add_item, GoodItems, add_items, Complete}
use Rattle.grammar.specs.Laws.{WrittenIsRead, SaysOne}
use Rattle.grammar.proofs.Going.{Goes, Left, stay, next}
use Rattle.grammar.proofs.GoingHeaders.{header_goes}
use Rattle.grammar.proofs.GoingRoutes.{first_goes, after_goes}
use Rattle.grammar.proofs.GoingTables.{table_goes}
use Rattle.grammar.proofs.GoingStatements.{do_goes}

item_goes : (i : syntax.Item) (p : Program) (ks : List Piece) → GoodItem p i → Goes Item (seen p) (item i ks) Item (seen (add_item i p)) ks
item_goes (HeaderItem w fs) p ks g = header_goes p w fs ks g
item_goes (FirstItem w) p ks g = first_goes p w ks g
item_goes (AfterItem w r cs) p ks g = after_goes p w r cs ks g
item_goes (TableItem w looks sets lines) p ks g = table_goes p w looks sets lines ks g
item_goes (DoItem s o) p ks g = do_goes p s o ks g

items_go : (is : List syntax.Item) (p : Program) → GoodItems p is → Goes Item (seen p) (source is) Item (seen (add_items is p)) (piece End ∷ [])
items_go [] p g = stay
items_go (i ∷ is) p g = next (item_goes i p (source is) g.0) (items_go is (add_item i p) g.1)

arrives : (hs : List Entry) (n : Next) → Arrives hs n → missing hs n ≡ None
arrives hs Ends a = refl
arrives hs (Header k) a = refl
arrives hs (Later w o) a = cond-true (is_some (find hs w)) None (Some o) a
arrives hs (Never o) a = absurd a

all_arrive : (hs : List Entry) (cs : List Choice) → AllArrive hs cs → unnamed hs cs ≡ None
unfolding unnamed
all_arrive hs [] a = refl
all_arrive hs (c ∷ cs) a = ap (λ (o : Option ℕ). or_else o (unnamed hs cs)) (arrives hs c.next a.0) ∙ all_arrive hs cs a.1

begun : (o : Option Done) → is_some o ≡ true → (body_of o).begun ≡ true
begun (Some b) e = refl
begun None e = e

-- the end of a complete source
ends : (p : Program) (i : ℕ) → Complete p → step Item (seen p) (token End i) ≡ go Item (seen p)
ends p i c =
    ap (λ (o : Option ℕ). complete o i (seen p)) (all_arrive p.names.headers p.routes.choices c.choices)
    ∙ cond-true (is_some p.routes.first && (body_of p.done).begun) _ _ (and_from _ _ c.first (begun p.done c.done))

taken_there : (p : Program) (ts : List Token) → Complete p → Fits (piece End ∷ []) ts → run Item (seen p) ts ≡ taken (seen p)
unfolding run
taken_there p ts c (one {x = x} {xs = xs} k o f) =
    ap (onward (is_end x.kind) (λ q e. run q e xs)) (subst (λ (l : Kind). step Item (seen p) (token l x.at) ≡ go Item (seen p)) (sym k) (ends p x.at c))
    ∙ ap (λ (b : Bool). cond b (taken (seen p)) (run Item (seen p) xs)) (ap is_end k)

pub written_is_read : WrittenIsRead
written_is_read ts d s =
    let l : Left (run Item nothing ts) Item (seen (add_items s.items empty)) (piece End ∷ []) = (items_go s.items empty s.good).goes ts s.spelt in
    l.same ∙ (taken_there (add_items s.items empty) l.rest s.complete l.fits ∙ ap taken (sym s.means))

same_taken : (o : Outcome) (d e : Seen) → o ≡ taken d → o ≡ taken e → d ≡ e
same_taken o d e h k = cc

pub says_one : SaysOne
says_one ts d e s t = same_taken (run Item nothing ts) d e (written_is_read ts d s) (written_is_read ts e t)

-- What is read is written by the grammar.
use Rattle.std.proofs.Common.{◌≡◌, ℕ, Bool, true, false, cond, ◌&&◌, List, [], ◌∷◌, is_some, Some, None, codes, Option, sym, refl, ◌∙◌, subst, arith}
use Rattle.std.proofs.lemmas.Bool.{and_parts, true≢false}
use Rattle.token.specs.Tokens.{End, Token}
use Rattle.source.specs.declared.fault.Fault.TheVariants.{Count}
use Rattle.source.specs.Names.{Entry, find}
use Rattle.source.specs.State.{Next, Ends, Header, Later, Never, Choice, Seen, Phase, Item}
use Rattle.source.specs.Steps.{go, stop, is_end, says}
use Rattle.source.specs.Reading.{missing, or_else, unnamed, complete, step, Outcome, taken, onward, run}
use Rattle.grammar.specs.Syntax as syntax
use Rattle.grammar.specs.Spelling.{piece, source, Fits, nil, one}
use Rattle.grammar.specs.Program.{Program, Done, body_of, empty, seen}
use Rattle.grammar.specs.Routes.{Arrives, AllArrive}
use Rattle.grammar.specs.Grammar.{add_item, GoodItems, add_items, Complete}
use Rattle.grammar.specs.Laws.{ReadIsWritten}
use Rattle.grammar.proofs.Taking.{After, never, refuses, next_item, is_word, took_if, by_length}
use Rattle.grammar.proofs.TakingItem.{ItemRead, is_none}
use Rattle.grammar.proofs.TakingHeaders.{header_read}
use Rattle.grammar.proofs.TakingRoutes.{first_read, after_read}
use Rattle.grammar.proofs.TakingTables.{table_read}
use Rattle.grammar.proofs.TakingDo.{do_read}

-- no `do`, or one
not_begun : (o : Option Done) → (body_of o).begun ≡ false → o ≡ None
not_begun (Some b) e = absurd (true≢false e)
not_begun None e = refl

begun : (o : Option Done) → (body_of o).begun ≡ true → is_some o ≡ true
begun (Some b) e = refl
begun None e = e

-- all choices arrive
arrives : (hs : List Entry) (n : Next) → missing hs n ≡ None → Arrives hs n
arrives hs Ends e = tt
arrives hs (Header k) e = tt
arrives hs (Later w o) e = by_test (is_some (find hs w)) e
  where
    by_test : (b : Bool) → cond b None (Some o) ≡ None → b ≡ true
    by_test true e = refl
    by_test false e = cc
arrives hs (Never o) e = let z : ◌≡◌ {A = ℕ} 0 1 = cc in omega arith

all_by : (hs : List Entry) (c : Choice) (cs : List Choice) (o : Option ℕ) → missing hs c.next ≡ o → or_else o (unnamed hs cs) ≡ None → (unnamed hs cs ≡ None → AllArrive hs cs) → AllArrive hs (c ∷ cs)
all_by hs c cs (Some n) m e k = let z : ◌≡◌ {A = ℕ} 0 1 = cc in absurd (omega arith)
all_by hs c cs None m e k = (arrives hs c.next m, k e)

all_arrive : (hs : List Entry) (cs : List Choice) → unnamed hs cs ≡ None → AllArrive hs cs
unfolding unnamed
all_arrive hs [] e = tt
all_arrive hs (c ∷ cs) e = all_by hs c cs (missing hs c.next) refl e (all_arrive hs cs)

-- the rest of a source, behind the items that declared p
record SourceRead (p : Program) (ts : List Token) (g : Seen) : Type 0 where
  items : List syntax.Item
  spelt : Fits (source items) ts
  good : GoodItems p items
  whole : Complete (add_items items p)
  means : g ≡ seen (add_items items p)

same_taken : (d g : Seen) → taken d ≡ taken g → g ≡ d
same_taken d g e = cc

-- what the end does
ends_with : {R : Type 0} (d g : Seen) (i : ℕ) (k : Phase → Seen → Outcome) (b : Bool) → onward true k (cond b (go Item d) (stop (Count i))) ≡ taken g → (b ≡ true → g ≡ d → R) → R
ends_with d g i k true e r = r refl (same_taken d g e)
ends_with d g i k false e r = never _ g e

ends_by : {R : Type 0} (p : Program) (g : Seen) (i : ℕ) (k : Phase → Seen → Outcome) (o : Option ℕ) → onward true k (complete o i (seen p)) ≡ taken g →
    (o ≡ None → (is_some p.routes.first && (body_of p.done).begun) ≡ true → g ≡ seen p → R) → R
ends_by p g i k (Some m) e r = never _ g e
ends_by p g i k None e r = ends_with (seen p) g i k (is_some p.routes.first && (body_of p.done).begun) e (λ b m. r refl b m)

end_read : (p : Program) (g : Seen) (ts : List Token) (x : Token) → ts ≡ x ∷ [] → x.kind ≡ End → unnamed p.names.headers p.routes.choices ≡ None →
    (is_some p.routes.first && (body_of p.done).begun) ≡ true → g ≡ seen p → SourceRead p ts g
end_read p g ts x e c n b m =
    let q = and_parts _ _ b in
    record {
      items = [];
      spelt = subst (Fits (piece End ∷ [])) (sym e) (one c tt nil);
      good = tt;
      whole = record { choices = all_arrive _ _ n; first = q.0; done = begun p.done q.1 };
      means = m;
    }

item_then : (p : Program) (g : Seen) (ts : List Token) (i : ItemRead p ts g) → SourceRead (add_item i.item p) i.rest g → SourceRead p ts g
item_then p g ts i s = record { items = i.item ∷ s.items; spelt = i.spelt _ s.spelt; good = (i.good, s.good); whole = s.whole; means = s.means }

item_read : (p : Program) (g : Seen) (ts : List Token) (x : Token) (xs : List Token) → ts ≡ x ∷ xs → is_end x.kind ≡ false → After (step Item (seen p) x) xs g → ItemRead p ts g
item_read p g ts x xs e n s =
    took_if (is_end x.kind) s (λ c s. absurd (true≢false (sym c ∙ n)))
    (λ c s. took_if (says (codes "header") x.kind) s (λ c s. header_read p g ts x xs e (is_word _ _ c) s)
    (λ c s. took_if (says (codes "first") x.kind) s (λ c s. took_if (is_some p.routes.first) s (λ o s. refuses s) (λ o s. first_read p g ts x xs e (is_word _ _ c) (is_none _ o) s))
    (λ c s. took_if (says (codes "after") x.kind) s (λ c s. after_read p g ts x xs e (is_word _ _ c) s)
    (λ c s. took_if (says (codes "table") x.kind) s (λ c s. table_read p g ts x xs e (is_word _ _ c) s)
    (λ c s. took_if (says (codes "do") x.kind) s (λ c s. took_if (body_of p.done).begun s (λ o s. refuses s) (λ o s. do_read p g ts x xs e (is_word _ _ c) (not_begun _ o) s))
    (λ c s. refuses s))))))

items_read : (g : Seen) (ts : List Token) (p : Program) → After (go Item (seen p)) ts g → SourceRead p ts g
items_read g =
    by_length (λ ts. (p : Program) → After (go Item (seen p)) ts g → SourceRead p ts g) (λ ts rec p a.
    next_item a
    (λ x e c h. ends_by p g x.at (λ q d. run q d []) (unnamed p.names.headers p.routes.choices) h (λ n b m. end_read p g ts x e c n b m))
    (λ x xs e n s.
    let i : ItemRead p ts g = item_read p g ts x xs e n s in
    item_then p g ts i (rec i.rest i.less (add_item i.item p) i.takes)))

pub read_is_written : ReadIsWritten
read_is_written ts d n h =
    let s : SourceRead empty ts d = items_read d ts empty (record { ended = n; takes = h }) in
    record { items = s.items; spelt = s.spelt; good = s.good; complete = s.whole; means = s.means }

-- A `do` that is read is spelt.
use Rattle.std.proofs.Common.{◌≡◌, ◌<◌, List, [], ◌∷◌, length, None, codes, sym, refl, subst}
use Rattle.model.specs.Declarations.{TableDeclaration}
use Rattle.token.specs.declared.token.Sign.TheVariants.{Open}
use Rattle.token.specs.Tokens.{Word, Token}
use Rattle.source.specs.State.{Names, Routes, Do, Seen, InBody, DoOpen}
use Rattle.source.specs.Steps.{go}
use Rattle.source.specs.Bodies.{begin}
use Rattle.grammar.specs.Syntax.{DoItem}
use Rattle.grammar.specs.Spelling as spelling
use Rattle.grammar.specs.Spelling.{Piece, Fits}
use Rattle.grammar.specs.Program.{Program, seen}
use Rattle.grammar.proofs.Once.{once_paths}
use Rattle.grammar.proofs.GoingStatements.{as_none}
use Rattle.grammar.proofs.Taking.{After, next_sign, put, put_at, less}
use Rattle.grammar.proofs.TakingItem.{ItemRead, fewer}
use Rattle.grammar.proofs.TakingStatements.{StatementsRead, start}
use Rattle.grammar.proofs.TakingBranches.{statements_read}

abbrev undone : Names → Routes → List TableDeclaration → Program
undone n r T = record { names = n; routes = r; tables = T; done = None }

do_of : (n : Names) (r : Routes) (T : List TableDeclaration) (g : Seen) (ts us : List Token) →
    ((js : List Piece) → Fits js us → Fits (spelling.word (codes "do") ∷ spelling.sign Open ∷ js) ts) → length us < length ts →
    StatementsRead n r T g [] (Do ∷ []) 0 us → ItemRead (undone n r T) ts g
do_of n r T g ts us spelt l s =
    record {
      item = DoItem s.statements s.token.at;
      rest = s.rest;
      good = record { once = refl; statements = s.good; paths = once_paths n s.statements s.once };
      spelt = λ js f. spelt _ (s.spelt _ (put_at refl s.closes f));
      less = fewer _ _ _ s.less l;
      takes = s.takes;
    }

do_from : (n : Names) (r : Routes) (T : List TableDeclaration) (g : Seen) (ts : List Token) (x : Token) (xs : List Token) → ts ≡ x ∷ xs → x.kind ≡ Word (codes "do") →
    After (go (InBody DoOpen) (begin (seen (undone n r T)))) xs g → ItemRead (undone n r T) ts g
do_from n r T g ts x xs e c a =
    next_sign Open refl (λ y. refl) a (λ y ys f k s.
    do_of n r T g ts ys (λ js h. put e c (put f k h)) (fewer _ _ _ (less f) (less e)) (start n r T g [] (Do ∷ []) 0 ys (statements_read n r T g ys) s))

pub do_read : (p : Program) (g : Seen) (ts : List Token) (x : Token) (xs : List Token) → ts ≡ x ∷ xs → x.kind ≡ Word (codes "do") → p.done ≡ None →
    After (go (InBody DoOpen) (begin (seen p))) xs g → ItemRead p ts g
do_read p g ts x xs e c o a =
    subst (λ (m : Program). ItemRead m ts g) (sym (as_none p o))
    (do_from p.names p.routes p.tables g ts x xs e c (subst (λ (m : Program). After (go (InBody DoOpen) (begin (seen m))) xs g) (as_none p o) a))

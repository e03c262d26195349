use Rattle.std.proofs.Common.{◌≡◌, ◌<◌, ◌≤◌, List, map, length, get_or, vec_items, sym, ap, ◌∙◌}
use Rattle.std.proofs.lemmas.List.{get_or-map, get_or_past, length-map}
use Rattle.model.specs.Declarations as declarations
use Rattle.model.specs.Table.{chosen}
use Rattle.program.specs.Stands.{over, table_of, undeclared}
use Rattle.program.specs.declared.declarations.TableDeclaration.{TableDeclaration}
use Rattle.table.specs.Stands.{entries_of}
use Rattle.table.proofs.Fitting.{first_of_none}
use Rattle.table.proofs.lookup.chosen_for.Goals as goal

pub returns-in-Some : goal.returns-in-Some
returns-in-Some c base =
    let ts : List TableDeclaration = vec_items c.args.declarations.now.tables in
    let same : c.deref.result.now ≡ vec_items c.args.declarations.now.tables = c.deref.ensures.value in
    let is : c.in-Some.declared.now ≡ get_or c.deref.result.now c.args.table.at c.in-Some.declared.now = c.in-Some.ensures.lookup.1 in
    let within : c.args.table.at < length (vec_items c.args.declarations.now.tables) = rw same at c.in-Some.ensures.lookup.3.0 in
    c.chosen.ensures.index base
    ∙ ap (λ (t : declarations.TableDeclaration). chosen t (entries_of c.args.entries.now) (over c.args.fields.now base))
    (ap table_of (rw same at is) ∙ sym (get_or-map table_of ts c.args.table.at c.in-Some.declared.now undeclared within))

pub returns-in-None : goal.returns-in-None
returns-in-None c base =
    let same : c.deref.result.now ≡ vec_items c.args.declarations.now.tables = c.deref.ensures.value in
    let past : length (vec_items c.args.declarations.now.tables) ≤ c.args.table.at = rw same at c.in-None.ensures.lookup.3 in
    sym (ap (λ (t : declarations.TableDeclaration). chosen t (entries_of c.args.entries.now) (over c.args.fields.now base))
    (get_or_past (map table_of (vec_items c.args.declarations.now.tables)) c.args.table.at undeclared (rw length-map past))
    ∙ first_of_none (entries_of c.args.entries.now) (over c.args.fields.now base))

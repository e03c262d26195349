use Rattle.std.proofs.Common.{◌<◌, true, false, cond, eqb, List, [], length, get_or, vec_items, ap, ◌∙◌, arith}
use mathlib.Core.Path.{fun_ext}
use Rattle.model.specs.Table as table
use Rattle.table.specs.Stands.{entries_of}
use Rattle.table.specs.declared.entry.Entry.{Entry}
use Rattle.table.proofs.Stored.{all, replaced, kept}
use Rattle.table.proofs.store.Tables.give.Goals as goal

pub returns : goal.returns
returns c =
    let h : c.args.table.at < length (vec_items c.args.self.now.all) = omega (arith, c.args.self.now.all.ok.0, c.args.self.now.each, c.args.table.ok) in
    let look : List (List table.Entry) → table.Tables = λ l n. get_or l n [] in
    record {
      newest = fun_ext (λ n.
          replaced true (vec_items c.args.self.now.all) c.args.table.at c.give.new.self h n
          ∙ ap (λ (es : List Entry). cond (eqb n c.args.table.at) (entries_of es) (get_or (all true (vec_items c.args.self.now.all)) n [])) c.give.ensures.newest);
      before = ap look
          (kept false (vec_items c.args.self.now.all) c.args.table.at c.give.new.self c.index_mut.result.now h c.index_mut.ensures.value c.give.ensures.before);
    }

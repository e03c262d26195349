use Rattle.std.proofs.Common.{List, vec_items, ap}
use Rattle.std.proofs.lemmas.List.{map-set}
use Rattle.source.specs.State.{Row, with_body}
use Rattle.source.specs.Stands.{seen_of, row_of}
use Rattle.source.proofs.seen.Seen.put_row.Goals as goal

pub returns-then-index-len : goal.returns-then-index-len
returns-then-index-len c =
    let d = seen_of c.args.self.now in
    ap (λ (xs : List Row). with_body (record { rows = xs; blocks = d.body.blocks; applied = d.body.applied; begun = d.body.begun; end = d.body.end }) d)
    (map-set row_of (vec_items c.args.self.now.body.rows) c.args.index c.args.row)

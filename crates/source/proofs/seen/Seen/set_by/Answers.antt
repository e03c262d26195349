use Rattle.std.proofs.Common.{ℕ, List, Some, Option, ap}
use Rattle.std.proofs.lemmas.List.{map-set}
use Rattle.source.specs.Names.{number_of}
use Rattle.source.specs.State.{with_routes}
use Rattle.source.specs.Stands.{seen_of}
use Rattle.source.proofs.seen.Seen.set_by.Goals as goal

pub returns : goal.returns
returns c =
    let d = seen_of c.args.self.now in
    ap (λ (xs : List (Option ℕ)). with_routes (record { first = d.routes.first; by = xs; choices = d.routes.choices }) d)
    (map-set number_of c.args.self.now.routes.by c.args.header.at (Some c.args.field))

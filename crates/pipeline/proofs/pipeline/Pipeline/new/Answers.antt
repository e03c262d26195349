use Rattle.std.proofs.Common.{Bool, false, List, vec_items, ap, ap₂}
use mathlib.Core.Path.{fun_ext}
use mathlib.Core.Bool.{beq}
use Rattle.model.specs.Table.{Tables}
use Rattle.model.specs.Version.{Version}
use Rattle.model.specs.Pipeline as model
use Rattle.program.specs.Stands.{declarations_of, nodes_of}
use Rattle.pipeline.specs.Stands.{stored_in}
use Rattle.pipeline.proofs.pipeline.Pipeline.new.Goals as goal

pub returns-clause-starts : goal.returns-clause-starts
returns-clause-starts c =
    ap₂ {C = model.Pipeline Bool} (λ (l : List (model.Slot Bool)) (vs : Bool → Version). record { slots = l; versions = vs; newest = false })
    (c.free_slots-slots.ensures.free (stored_in c.in_ok-store.store))
    (fun_ext (λ v. ap {B = Version} (λ (t : Tables). record { declarations = declarations_of c.args.loaded.declarations; nodes = nodes_of (vec_items c.args.loaded.nodes); tables = t })
    (c.in_ok-tables.ensures (beq v false))))

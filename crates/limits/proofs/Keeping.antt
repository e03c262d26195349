-- Each step that goes on keeps what holds.
use Rattle.std.proofs.Common.{ℕ, ◌&&◌, is_some, Some, None, codes, Option}
use Rattle.token.specs.Tokens.{Token}
use Rattle.source.specs.State.{Phase, Item, InHeader, InRoute, InTable, InField, InBody, Seen}
use Rattle.source.specs.Steps.{is_end, says}
use Rattle.source.specs.Reading.{complete, unnamed, item, step}
use Rattle.limits.proofs.Words.{Proper}
use Rattle.limits.proofs.Stepping.{After, goes, stops, if_kept}
use Rattle.limits.proofs.Sound.{Held}
use Rattle.limits.proofs.Bodies.{begun_state}
use Rattle.limits.proofs.KeepHeaders.{headers_keep}
use Rattle.limits.proofs.KeepRoutes.{routes_keep}
use Rattle.limits.proofs.KeepTables.{tables_keep}
use Rattle.limits.proofs.KeepBodies.{fields_keep, bodies_keep}

complete_keeps : (o : Option ℕ) (at : ℕ) (d : Seen) → Held Item d → After Held (complete o at d)
complete_keeps (Some n) at d h = stops
complete_keeps None at d h = if_kept (is_some d.routes.first && d.body.begun) _ _ (λ e. goes h) (λ e. stops)

item_keeps : (d : Seen) (x : Token) → Held Item d → After Held (item d x)
item_keeps d x h =
    if_kept (is_end x.kind) _ _ (λ e. complete_keeps (unnamed d.names.headers d.routes.choices) x.at d h)
    (λ e. if_kept (says (codes "header") x.kind) _ _ (λ e1. goes (record { state = h.state; phase = h.phase }))
    (λ e1. if_kept (says (codes "first") x.kind) _ _ (λ e2. if_kept (is_some d.routes.first) _ _ (λ e3. stops) (λ e3. goes (record { state = h.state; phase = h.phase })))
    (λ e2. if_kept (says (codes "after") x.kind) _ _ (λ e3. goes (record { state = h.state; phase = h.phase }))
    (λ e3. if_kept (says (codes "table") x.kind) _ _ (λ e4. goes (record { state = h.state; phase = h.phase }))
    (λ e4. if_kept (says (codes "do") x.kind) _ _ (λ e5. if_kept d.body.begun _ _ (λ e6. stops)
    (λ e6. goes (record { state = begun_state d h.state; phase = record { shaped = h.phase.shaped; all_declared = h.phase.all_declared; at_rest = record { shut = h.phase.at_rest.shut; trace = h.phase.at_rest.trace } } }))) (λ e5. stops))))))

pub keeps : (p : Phase) (d : Seen) (x : Token) → Proper x → Held p d → After Held (step p d x)
keeps Item d x r h = item_keeps d x h
keeps (InHeader p) d x r h = headers_keep p d x r h
keeps (InRoute p) d x r h = routes_keep p d x h
keeps (InTable p) d x r h = tables_keep p d x r h
keeps (InField u p) d x r h = fields_keep u p d x h.state h.phase.use_of h.phase.there
keeps (InBody p) d x r h = bodies_keep p d x h
